use Rattle.std.proofs.Common.{◌≡◌, ◌++◌, drop, map}
use Rattle.item_faults.specs.Steps.{entry_of}
use Rattle.item_faults.proofs.steps.entries_by.Given as goal

abbrev pub invariant-loop-step : goal.invariant-loop-step
invariant-loop-step l =
    map (entry_of l.acts l.steps) l.steps ≡ l.entries.items ++ map (entry_of l.acts l.steps) (drop l.step-index l.steps)
