use Rattle.std.proofs.Common.{◌≡◌, None, drop}
use Rattle.item_faults.specs.Steps.{cause_from}
use Rattle.item_faults.proofs.steps.cause_of.Given as goal

abbrev pub invariant-loop-step : goal.invariant-loop-step
invariant-loop-step l =
    cause_from l.steps l.act None l.steps ≡ cause_from l.steps l.act l.found (drop l.step-index l.steps)
