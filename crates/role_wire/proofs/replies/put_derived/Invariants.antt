use Rattle.std.proofs.Common.{◌≡◌, ◌+◌, ◌*◌, ◌∷◌, ◌++◌, length, take}
use Rattle.std.specs.List.{flat_map}
use Rattle.annex_a_keys.specs.declared.derived.Derived.{Derived}
use Rattle.role_wire.proofs.replies.put_derived.Given as goal

abbrev pub invariant-loop-made : goal.invariant-loop-made
invariant-loop-made l =
    (l.out ≡ l.fn.out ++ length l.derived ∷ flat_map (λ (d : Derived). d.out) (take l.made-index l.derived))
    × (length l.out ≡ length l.fn.out + 1 + 32 * l.made-index)
