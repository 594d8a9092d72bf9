use Rattle.std.proofs.Common.{◌≡◌, [], length, take, drop}
use Rattle.item_steps.specs.Steps.{steps_from}
use Rattle.item_steps.proofs.steps.listed.Given as goal

abbrev pub invariant-loop-number : goal.invariant-loop-number
invariant-loop-number l = record {
  steps : steps_from [] [] l.events.items l.told
      ≡ steps_from l.steps.items (take l.number l.told) (drop l.number l.events.items) (drop l.number l.told);
  as_many : length l.steps.items ≡ l.number;
}
