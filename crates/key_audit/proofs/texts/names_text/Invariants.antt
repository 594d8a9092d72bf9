use Rattle.std.proofs.Common.{◌≡◌, ◌++◌, drop, Some}
use Rattle.key_audit.specs.Local.{mark_of}
use Rattle.key_audit.specs.Text.{for_each, name_if, stations, names_text}
use Rattle.key_audit.proofs.texts.names_text.Given as goal

abbrev pub invariant-loop-station : goal.invariant-loop-station
invariant-loop-station l =
    l.text.items ++ for_each (λ s. name_if (mark_of s (Some l.marks)) s) (drop l.station stations) ≡ names_text (λ s. mark_of s (Some l.marks))
