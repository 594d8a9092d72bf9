use Rattle.std.proofs.Common.{◌≡◌, [], drop}
use Rattle.item_faults.specs.Steps.{senders_from}
use Rattle.item_faults.proofs.steps.senders_of.Given as goal

abbrev pub invariant-loop-step : goal.invariant-loop-step
invariant-loop-step l = senders_from [] l.steps ≡ senders_from l.found.items (drop l.step-index l.steps)
