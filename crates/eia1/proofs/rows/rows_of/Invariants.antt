use Rattle.std.proofs.Common.{◌≡◌, ℕ, ◌*◌, ◌<◌, [], length, slice_index_or}
use Rattle.eia1.specs.{Polynomial.times_power, Rows.row_of}
use Rattle.eia1.proofs.rows.rows_of.Given as goal

abbrev pub invariant-loop-j : goal.invariant-loop-j
invariant-loop-j l = record {
  long : length l.rows ≡ 16;
  power : l.power ≡ times_power l.p (4 * l.j);
  rows : (k : ℕ) → k < l.j → slice_index_or l.rows k [] ≡ row_of (times_power l.p (4 * k));
}
