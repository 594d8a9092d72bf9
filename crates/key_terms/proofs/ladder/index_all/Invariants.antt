use Rattle.std.proofs.Common.{◌≡◌, length}
use Rattle.key_terms.specs.Ladder.{IsIndexOf}
use Rattle.key_terms.proofs.ladder.index_all.Given as goal

abbrev pub invariant-loop-number : goal.invariant-loop-number
invariant-loop-number l = IsIndexOf l.index l.rows × (length l.index ≡ l.number)
