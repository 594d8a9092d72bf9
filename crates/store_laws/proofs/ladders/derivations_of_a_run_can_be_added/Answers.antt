use Rattle.store_laws.proofs.EveryRun.{world_keeps, event_keeps}
use Rattle.store_laws.proofs.ladders.derivations_of_a_run_can_be_added.Goals as goal

pub returns-clause-world : goal.returns-clause-world
returns-clause-world call setup events w is are e = world_keeps setup events w is are e

pub returns-clause-event : goal.returns-clause-event
returns-clause-event call setup events w is are e event good = event_keeps setup events w is are e event good
