use Rattle.lte_properties.proofs.KeySeparation.Ever.{giving_holds, giving_holds_in_octets}
use Rattle.lte_properties.proofs.separation.keys_are_given_as_tried_in_every_run.Goals as goal

pub returns-clause-by_uses : goal.returns-clause-by_uses
returns-clause-by_uses c = giving_holds

pub returns-clause-by_octets : goal.returns-clause-by_octets
returns-clause-by_octets c = giving_holds_in_octets
