use Rattle.std.proofs.Common.{◌≡◌, ◌++◌, List}
use Rattle.trace_keys.specs.declared.moves.Move.{Move}
use Rattle.trace_rules.specs.Told.{Told}
use Rattle.trace_plain.specs.Way.{Back}
use Rattle.trace_plain.proofs.way.told_back.Given as goal

abbrev pub invariant-loop-at : goal.invariant-loop-at
invariant-loop-at l = (all : List (Told Move)) → Back l.came l.last all → (rest : List (Told Move)) × Back l.came l.at rest × (l.told.items ++ rest ≡ all)

abbrev pub decreases-loop-at : goal.decreases-loop-at
decreases-loop-at l = l.at
