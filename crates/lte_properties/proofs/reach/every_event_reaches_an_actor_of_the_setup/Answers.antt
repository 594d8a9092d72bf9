use Rattle.lte_machine.specs.Ciphers.{annex_b}
use Rattle.lte_machine.proofs.AnnexB.{annex_b_ciphers}
use Rattle.lte_properties.proofs.{EveryRun.reach, Reaching.step_reaches}
use Rattle.lte_properties.proofs.reach.every_event_reaches_an_actor_of_the_setup.Goals as goal

pub returns-clause-records : goal.returns-clause-records
returns-clause-records c = λ setup events w set are is. reach annex_b annex_b_ciphers setup events w is set are

pub returns-clause-steps : goal.returns-clause-steps
returns-clause-steps c = step_reaches
