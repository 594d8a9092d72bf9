use Rattle.std.proofs.Common.{◌≡◌, ℕ, ◌<◌, Some, false}
use Rattle.std.specs.Prelude.{slice_index_or}
use Rattle.key_audit.specs.Local.{held_first, mark_of, IsClean}
use Rattle.key_audit.proofs.audits.with_holders.Given as goal

abbrev pub invariant-loop-station : goal.invariant-loop-station
invariant-loop-station l =
    ((s : ℕ) → s < l.station → mark_of s (Some l.row) ≡ held_first (slice_index_or l.held s false) l.k (mark_of s (Some l.fn.above))) × IsClean (Some l.row)
