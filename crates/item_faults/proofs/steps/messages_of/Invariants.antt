use Rattle.std.proofs.Common.{◌≡◌, [], drop}
use Rattle.item_faults.specs.Steps.{messages_from}
use Rattle.item_faults.proofs.steps.messages_of.Given as goal

abbrev pub invariant-loop-step : goal.invariant-loop-step
invariant-loop-step l =
    messages_from l.packets l.steps [] l.steps ≡ messages_from l.packets l.steps l.found.items (drop l.step-index l.steps)
