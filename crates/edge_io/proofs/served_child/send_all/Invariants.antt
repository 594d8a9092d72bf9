use Rattle.std.proofs.Common.{◌-◌, ◌≤◌, length, take}
use Rattle.std.specs.Io.KnownBytes.{Appends}
use Rattle.edge_io.proofs.served_child.send_all.Given as goal

abbrev pub invariant-pieces : goal.invariant-pieces
invariant-pieces g l =
    Appends (g.W.Writer.contents l.initial.stream) (g.W.Writer.contents l.stream) (take l.sent l.octets)
    × (l.sent ≤ length l.octets)

abbrev pub decreases-pieces : goal.decreases-pieces
decreases-pieces g l = length l.octets - l.sent
