-- A share of the choices of faults of which variants are made.
use Rattle.std.specs.Prelude.{ℕ, ◌+◌, ◌%◌, ◌==◌, List, [], ◌∷◌, if◌then◌else◌}
use Rattle.lte_variants.specs.declared.request.Share.{Share}

-- those of a list that are in a share, by their places from this one on: the shares take turns
unfoldable pub share_from : {A : Type 0} → Share → ℕ → List A → List A
share_from share place [] = []
share_from share place (x ∷ xs) =
    if place % share.parts + 1 == share.number then x ∷ share_from share (place + 1) xs else share_from share (place + 1) xs

abbrev pub in_share : {A : Type 0} → Share → List A → List A
in_share share xs = share_from share 0 xs
