use Rattle.scenario_file.specs.Draws.{opening}
use Rattle.scenario_file.proofs.TakenSteps.{then}
use Rattle.scenario_file.proofs.turns.add_opening.Goals as goal

pub returns-clause-steps : goal.returns-clause-steps
unfolding opening
returns-clause-steps c =
    rw (← c.cell_of.ensures, ← c.generated_caps.ensures)
    (then _ _ _ _ _ c.in_ok-put.ensures.step
    (then _ _ _ _ _ c.in_ok-put-2.ensures.step (then _ _ _ _ _ c.in_ok-arrivals.ensures.steps
    (then _ _ _ _ _ c.in_ok-put-3.ensures.step c.in_ok-arrivals-2.ensures.steps))))
