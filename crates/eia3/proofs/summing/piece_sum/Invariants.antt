use Rattle.std.proofs.Common.{◌≡◌, ℕ, ◌*◌}
use Rattle.eia3.specs.{Eia3.sums, Words.HasWords}
use Rattle.eia3.proofs.summing.piece_sum.Given as goal

abbrev pub invariant-loop-i : goal.invariant-loop-i
invariant-loop-i l = (z : ℕ → ℕ) → HasWords z l.words l.next → l.sum ≡ sums z l.piece (32 * l.i)
