use Rattle.std.proofs.Common.{◌≡◌, [], drop}
use Rattle.item_outcomes.specs.Outcomes.{told_from}
use Rattle.item_outcomes.proofs.judging.told_of.Given as goal

abbrev pub invariant-loop-outcome : goal.invariant-loop-outcome
invariant-loop-outcome l =
    told_from l.own l.usual l.here l.all [] ≡ told_from l.own l.usual l.here (drop l.outcome-index l.all) l.found.items
