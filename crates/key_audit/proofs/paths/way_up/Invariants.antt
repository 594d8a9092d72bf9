use Rattle.std.proofs.Common.{◌≡◌, ◌++◌, ◌<◌, length}
use Rattle.std.specs.Option.{IfSome}
use Rattle.key_audit.specs.Text.{on_from, way_up}
use Rattle.key_audit.proofs.Ways.{left}
use Rattle.key_audit.proofs.paths.way_up.Given as goal

abbrev pub invariant-loop-next : goal.invariant-loop-next
invariant-loop-next l =
    (l.way.items ++ on_from (way_up l.ladder.rows l.to) l.next ≡ way_up l.ladder.rows l.to l.k) × IfSome l.next (λ row. row < length l.ladder.rows)

abbrev pub decreases-loop-next : goal.decreases-loop-next
decreases-loop-next l = left l.next
