use Rattle.std.proofs.Common.{◌≡◌, ◌++◌, drop, Some}
use Rattle.key_audit.specs.Local.{mark_of}
use Rattle.key_audit.specs.Text.{for_each, by_if, stations, paths_text}
use Rattle.key_audit.proofs.texts.paths_text.Given as goal

abbrev pub invariant-loop-station : goal.invariant-loop-station
invariant-loop-station l =
    l.text.items ++ for_each (λ s. by_if l.ladder.rows l.k (mark_of s (Some l.marks)) s) (drop l.station stations)
    ≡ paths_text l.ladder.rows l.k (λ s. mark_of s (Some l.marks))
