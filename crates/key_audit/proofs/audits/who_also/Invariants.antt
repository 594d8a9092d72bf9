use Rattle.std.proofs.Common.{◌≡◌, ℕ, ◌<◌, Some}
use Rattle.key_audit.specs.Local.{and_mark, mark_of, IsClean}
use Rattle.key_audit.proofs.audits.who_also.Given as goal

abbrev pub invariant-loop-station : goal.invariant-loop-station
invariant-loop-station l =
    ((s : ℕ) → s < l.station → mark_of s (Some l.both) ≡ and_mark (mark_of s (Some l.other)) (mark_of s (Some l.fn.row))) × IsClean (Some l.both)
