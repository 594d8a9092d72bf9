use Rattle.std.proofs.Common.{◌≡◌, [], drop}
use Rattle.item_runs.specs.Reach.{marks_from}
use Rattle.item_runs.proofs.reach.marks.Given as goal

abbrev pub invariant-loop-number : goal.invariant-loop-number
invariant-loop-number l = marks_from l.station [] l.ladder.rows ≡ marks_from l.station l.marks.items (drop l.number l.ladder.rows)
