use Rattle.std.proofs.Common.{◌≡◌, ℕ, ◌*◌, ◌<◌, length, slice_index}
use Rattle.keystream.specs.Combined.{octet_in}
use Rattle.keystream.proofs.octets.Given as goal

abbrev pub invariant-loop-i : goal.invariant-loop-i
invariant-loop-i l = record {
  long : length l.stream ≡ 64;
  done : (k : ℕ) → k < 4 * l.i → slice_index l.stream k ≡ octet_in (slice_index l.words) k;
}
