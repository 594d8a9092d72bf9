use Rattle.std.proofs.Common.{◌≡◌, ◌++◌, drop}
use Rattle.lte_trace.specs.Moves.{moves_text}
use Rattle.lte_trace.proofs.moves.add_moves.Given as goal

abbrev pub invariant-loop-one : goal.invariant-loop-one
invariant-loop-one l = l.text.items ++ moves_text (drop l.one-index l.told) ≡ l.fn.text.items ++ moves_text l.told
