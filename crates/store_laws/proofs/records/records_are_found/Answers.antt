use Rattle.lte_machine.specs.Ciphers.{annex_b}
use Rattle.store_laws.proofs.Found.{first_is, chosen_is}
use Rattle.store_laws.proofs.records.records_are_found.Goals as goal

pub returns-clause-injected : goal.returns-clause-injected
returns-clause-injected call sent class octets = first_is annex_b sent class octets

pub returns-clause-delivered : goal.returns-clause-delivered
returns-clause-delivered call sent i = chosen_is sent i
