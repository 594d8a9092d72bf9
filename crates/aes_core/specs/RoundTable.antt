-- The tables of a round: what one octet of a column adds to the column that MixColumns makes of it.
use Rattle.std.specs.Prelude.{ℕ, ◌+◌, ◌-◌, ◌%◌, List, [], ◌∷◌, map, slice_index}
use Rattle.std.specs.List.{range_with_len}
use Rattle.aes_core.specs.{Field.multiply, SBox.sub_byte}

-- the column product of a column that has this octet in row 0 and zeros below (5.1.3)
abbrev pub column_product : ℕ → List ℕ
column_product octet = multiply 2 octet ∷ octet ∷ octet ∷ multiply 3 octet ∷ []

-- a column turned down by r rows
abbrev pub turned_down : ℕ → List ℕ → List ℕ
turned_down r column = map (λ i. slice_index column ((i + 4 - r) % 4)) (range_with_len 0 4)

-- the entry at x of the table of row r: the column product of the S-box at x, turned down by r rows
abbrev pub table_entry : ℕ → ℕ → List ℕ
table_entry r x = turned_down r (column_product (sub_byte x))
