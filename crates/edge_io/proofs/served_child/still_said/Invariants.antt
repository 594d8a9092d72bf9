use Rattle.std.proofs.Common.{◌≡◌, ◌-◌, ◌≤◌, length, take}
use Rattle.std.specs.Io.KnownBytes.{Consumes}
use Rattle.edge_io.proofs.served_child.still_said.Given as goal

abbrev pub invariant-pieces : goal.invariant-pieces
invariant-pieces g l =
    Consumes (g.R.Reader.remaining l.initial.stream) (g.R.Reader.remaining l.stream) (take l.count l.buf)
    × (l.count ≤ length l.buf)
    × (length l.buf ≡ length l.initial.buf)

abbrev pub decreases-pieces : goal.decreases-pieces
decreases-pieces g l = length l.buf - l.count
