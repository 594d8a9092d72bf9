use Rattle.std.proofs.Common.{◌≡◌, ◌≢◌, All, length}
use Rattle.std.specs.Io.KnownBytes.{Consumes}
use Rattle.edge_io.proofs.port_said.digits_said.Given as goal

abbrev pub invariant-line : goal.invariant-line
invariant-line g l =
    Consumes (g.R.Reader.remaining l.initial.said) (g.R.Reader.remaining l.said) l.digits.items
    × All (λ octet. octet ≢ 10) l.digits.items
    × (length l.digits.items ≡ l._place)
