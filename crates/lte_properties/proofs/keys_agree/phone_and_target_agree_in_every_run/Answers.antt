use Rattle.lte_machine.specs.Ciphers.{annex_b}
use Rattle.lte_machine.proofs.AnnexB.{annex_b_ciphers}
use Rattle.lte_properties.proofs.EveryRun.{agrees, none_ever}
use Rattle.lte_properties.proofs.keys_agree.phone_and_target_agree_in_every_run.Goals as goal

pub returns-clause-agree : goal.returns-clause-agree
returns-clause-agree c = λ setup events w set are is. agrees annex_b annex_b_ciphers setup events w is set are

pub returns-clause-far : goal.returns-clause-far
returns-clause-far c = λ setup events w set are is. none_ever annex_b annex_b_ciphers setup events w is set are
