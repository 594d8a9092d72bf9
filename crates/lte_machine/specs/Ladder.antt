-- The ladder of keys as a function of a run's derivations: the distinct ones in the order of their first derivation.
use Rattle.std.specs.Prelude.{ℕ, ◌+◌, ◌==◌, ◌&&◌, Bool, true, false, List, [], ◌∷◌, ◌++◌, Option, Some, None}
use Rattle.key_model.specs.Derivation.{Input, FromCount, FromSync, FromCell, FromAlg, Derivation, map_derivation}

-- where a row of the ladder comes from: an authentication, or a derivation
pub data RowOrigin (K : Type 0) : Type 0 where
  OfRoot : K → RowOrigin K
  Of : Derivation K → RowOrigin K

abbrev pub map_row : {K L : Type 0} → (K → L) → RowOrigin K → RowOrigin L
map_row f (OfRoot key) = OfRoot (f key)
map_row f (Of d) = Of (map_derivation f d)

-- the key of a row
abbrev pub row_key : {K : Type 0} → RowOrigin K → K
row_key (OfRoot key) = key
row_key (Of d) = d.out

abbrev pub same_input : {K : Type 0} → (K → K → Bool) → Input K → Input K → Bool
same_input same (FromCount m) (FromCount n) = m == n
same_input same (FromSync a) (FromSync b) = same a b
same_input same (FromCell pci earfcn) (FromCell pci' earfcn') = (pci == pci') && (earfcn == earfcn')
same_input same (FromAlg type id) (FromAlg type' id') = (type == type') && (id == id')
same_input same a b = false

-- whether two origins are one, where this test says which keys are one
abbrev pub same_origin : {K : Type 0} → (K → K → Bool) → RowOrigin K → RowOrigin K → Bool
same_origin same (OfRoot a) (OfRoot b) = same a b
same_origin same (Of d) (Of e) = same d.key e.key && same_input same d.input e.input
same_origin same a b = false

-- two origins of one value: the row that has the octets, and the origin that was refused
pub record Clash (K : Type 0) : Type 0 where
  pub row : ℕ
  pub origin : RowOrigin K

-- the rows so far, and the first clash if there was one
pub record Ladder (K : Type 0) : Type 0 where
  pub rows : List (RowOrigin K)
  pub clash : Option (Clash K)

-- the first row of a list with the key, and its place from i on
pub record Hit (K : Type 0) : Type 0 where
  pub place : ℕ
  pub found : RowOrigin K

abbrev pub hit_if : {K : Type 0} → Bool → Hit K → Option (Hit K) → Option (Hit K)
hit_if true hit later = Some hit
hit_if false hit later = later

abbrev pub hit_from : {K : Type 0} → (K → K → Bool) → K → ℕ → List (RowOrigin K) → Option (Hit K)
hit_from same key i [] = None
hit_from same key i (row ∷ rows) =
    hit_if (same (row_key row) key) (record { place = i; found = row }) (hit_from same key (i + 1) rows)

abbrev pub hit : {K : Type 0} → (K → K → Bool) → K → List (RowOrigin K) → Option (Hit K)
hit same key rows = hit_from same key 0 rows

-- the rows with one origin more: a new row where no row has its key; the same rows where the one that has it is the same
-- origin; and else a clash
abbrev pub stands_or_not : {K : Type 0} → Bool → List (RowOrigin K) → ℕ → RowOrigin K → Ladder K
stands_or_not true rows place origin = record { rows = rows; clash = None }
stands_or_not false rows place origin = record { rows = rows; clash = Some (record { row = place; origin = origin }) }

abbrev pub added_at : {K : Type 0} → (K → K → Bool) → List (RowOrigin K) → RowOrigin K → Option (Hit K) → Ladder K
added_at same rows origin None = record { rows = rows ++ origin ∷ []; clash = None }
added_at same rows origin (Some h) = stands_or_not (same_origin same h.found origin) rows h.place origin

abbrev pub add_row : {K : Type 0} → (K → K → Bool) → List (RowOrigin K) → RowOrigin K → Ladder K
add_row same rows origin = added_at same rows origin (hit same (row_key origin) rows)

-- one origin after the other, to the first clash
abbrev pub added_unless : {K : Type 0} → Option (Clash K) → (K → K → Bool) → List (RowOrigin K) → RowOrigin K → Ladder K
added_unless None same rows origin = add_row same rows origin
added_unless (Some clash) same rows origin = record { rows = rows; clash = Some clash }

abbrev pub add_next : {K : Type 0} → (K → K → Bool) → Ladder K → RowOrigin K → Ladder K
add_next same ladder origin = added_unless ladder.clash same ladder.rows origin

abbrev pub add_rows : {K : Type 0} → (K → K → Bool) → Ladder K → List (RowOrigin K) → Ladder K
add_rows same ladder [] = ladder
add_rows same ladder (origin ∷ origins) = add_rows same (add_next same ladder origin) origins

abbrev pub no_rows : {K : Type 0} → Ladder K
no_rows = record { rows = []; clash = None }

-- the ladder of a run's derivations
abbrev pub ladder_of : {K : Type 0} → (K → K → Bool) → List (RowOrigin K) → Ladder K
ladder_of same history = add_rows same no_rows history

-- the row of a root with this key, if one is
abbrev pub root_place : {K : Type 0} → ℕ → RowOrigin K → Option ℕ
root_place place (OfRoot key) = Some place
root_place place (Of d) = None

abbrev pub root_if : {K : Type 0} → Option (Hit K) → Option ℕ
root_if None = None
root_if (Some h) = root_place h.place h.found

abbrev pub root_row : {K : Type 0} → (K → K → Bool) → K → List (RowOrigin K) → Option ℕ
root_row same key rows = root_if (hit same key rows)
