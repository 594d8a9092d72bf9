use Rattle.lte_machine.specs.Ciphers.{annex_b}
use Rattle.lte_machine.proofs.AnnexB.{annex_b_ciphers}
use Rattle.lte_properties.proofs.EveryLine.{keys_are_told, lines_completed}
use Rattle.lte_properties.proofs.keys_told.lines_tell_the_keys_in_every_run.Goals as goal

pub returns-clause-told : goal.returns-clause-told
returns-clause-told c = λ setup events. keys_are_told annex_b setup events

pub returns-clause-completed : goal.returns-clause-completed
returns-clause-completed c = λ setup events w set are is. lines_completed annex_b annex_b_ciphers setup events w is set are
