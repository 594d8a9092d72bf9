use Rattle.lte_machine.specs.Run.{first_world}
use Rattle.lte_properties.proofs.AccountsHold.{holders_gain}
use Rattle.lte_properties.proofs.accounts.holders_derived_or_received_each_key.Goals as goal

pub returns : goal.returns
returns g c = λ m setup events. holders_gain m (first_world setup) events
