use Rattle.scenario_file.proofs.TakenSteps.{then}
use Rattle.scenario_file.proofs.turns.uplink.Goals as goal

pub returns-clause-steps : goal.returns-clause-steps
returns-clause-steps c = rw (← c.packet.ensures) (then _ _ _ _ _ c.in_ok-put.ensures.step c.in_ok-arrivals.ensures.steps)
