use Rattle.std.proofs.Common.{◌≡◌, ℕ, ◌+◌, ◌*◌, ◌<◌, slice_index}
use Rattle.zuc.specs.State.{after, initialised}
use Rattle.eia3.specs.Eia3.{eia3_iv, eia3_word, sums}
use Rattle.eia3.proofs.eia3.Given as goal

abbrev pub invariant-loop-number : goal.invariant-loop-number
invariant-loop-number l = record {
  state : l.zuc ≡ after (initialised l.key (eia3_iv l.count l.bearer l.fn.dir)) (16 * (l.number + 1));
  words : (i : ℕ) → i < 16 → slice_index l.words i ≡ eia3_word l.key l.count l.bearer l.fn.dir (16 * l.number + i);
  sum : l.sum ≡ sums (eia3_word l.key l.count l.bearer l.fn.dir) l.text (512 * l.number);
}
