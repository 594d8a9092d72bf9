use Rattle.lte_properties.proofs.KeySeparation.Ever.{separation_holds, separation_holds_in_octets}
use Rattle.lte_properties.proofs.separation.separation_holds_in_every_run.Goals as goal

pub returns-clause-by_uses : goal.returns-clause-by_uses
returns-clause-by_uses c = separation_holds

pub returns-clause-by_octets : goal.returns-clause-by_octets
returns-clause-by_octets c = separation_holds_in_octets
