use Rattle.std.proofs.Common.{◌≡◌, ◌+◌, ◌-◌, ◌*◌, [], length}
use Rattle.role_wire.specs.Body.{sites_at}
use Rattle.role_wire.proofs.setups.sites_at.Given as goal

abbrev pub invariant-loop-i : goal.invariant-loop-i
invariant-loop-i l =
    (length l.cells ≡ l.i)
    × (l.next ≡ l.fn.place + 7 * l.i)
    × (sites_at l.count [] l.octets l.fn.place ≡ sites_at (l.count - l.i) l.cells l.octets l.next)
