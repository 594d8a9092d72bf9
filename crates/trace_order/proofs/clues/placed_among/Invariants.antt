use Rattle.std.specs.Prelude.{IfSome}
use Rattle.trace_order.specs.Kinds.{IsMade}
use Rattle.trace_order.proofs.clues.placed_among.Given as goal

abbrev pub invariant-loop-clue : goal.invariant-loop-clue
invariant-loop-clue l = IfSome l.made IsMade
