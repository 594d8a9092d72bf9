use Rattle.std.proofs.Common.{◌≡◌, ◌+◌, ◌*◌, ◌≤◌, ◌∷◌, ◌++◌, length, take}
use Rattle.std.specs.List.{flat_map}
use Rattle.role_wire.specs.Spelling.{site_octets}
use Rattle.role_wire.proofs.writing.put_cells.Given as goal

abbrev pub invariant-loop-i : goal.invariant-loop-i
invariant-loop-i l =
    (l.out ≡ l.fn.out ++ length l.cells ∷ flat_map site_octets (take l.i l.cells))
    × (length l.out ≡ length l.fn.out + 1 + 7 * l.i)
    × (length l.cells ≤ 32)
