use Rattle.std.proofs.Common.{refl}
use Rattle.key_model.specs.Term.{Root}
use Rattle.lte_machine.specs.{Ciphers.octets_of, Machines.sender_of, Opening.open_octets, Opening.open_by_uses, Run.first_world}
use Rattle.lte_properties.proofs.AccountsHold.{uses_are_sent}
use Rattle.lte_properties.proofs.accounts.uses_are_those_of_the_records_sent.Goals as goal

pub returns-clause-by_uses : goal.returns-clause-by_uses
returns-clause-by_uses c = λ same ciphers between setup events.
    uses_are_sent same Root (octets_of ciphers between) sender_of (open_by_uses same ciphers) (first_world setup) events refl

pub returns-clause-by_octets : goal.returns-clause-by_octets
returns-clause-by_octets c = λ same ciphers between setup events.
    uses_are_sent same Root (octets_of ciphers between) sender_of (λ opening pdu came. open_octets ciphers opening pdu) (first_world setup) events refl
