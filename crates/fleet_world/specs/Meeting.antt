-- Where the keys of one phone are those of another.
use Rattle.std.specs.Prelude.{ℕ, ◌+◌, Bool, true, false, List, [], ◌∷◌, Option, Some, None, option_map, position, slice_index_or, unwrap_or}
use Rattle.std.specs.Option.{is_some}
use Rattle.key_terms.specs.{declared.row.LadderRow.LadderRow, declared.row.Origin.Origin, declared.row.Origin.TheVariants.Root, Ladder.row_of, Ladder.origin_at}

-- whether a row with these octets is a root
abbrev pub is_root : Option Origin → Bool
is_root (Some Root) = true
is_root other = false

abbrev pub root_at : List LadderRow → Option ℕ → Bool
root_at rows None = false
root_at rows (Some k) = is_root (origin_at rows k)

unfoldable pub has_root : List ℕ → List LadderRow → Bool
has_root octets rows = root_at rows (row_of rows octets)

-- the first ladder of which the octets are a root
abbrev pub root_among : List (List LadderRow) → List ℕ → Option ℕ
root_among ladders octets = position (has_root octets) ladders

-- whether a ladder has a row with these octets
unfoldable pub has_row : List ℕ → List LadderRow → Bool
has_row octets rows = is_some (row_of rows octets)

-- a row, and the row of another ladder with its octets
pub record Meeting : Type 0 where
  pub row : ℕ
  -- the other ladder, and its row
  pub other : ℕ
  pub other_row : ℕ

-- the first ladder with these octets, and its row
abbrev pub ladder_at : List (List LadderRow) → ℕ → List LadderRow
ladder_at ladders q = slice_index_or ladders q []

abbrev pub met_in : List (List LadderRow) → List ℕ → ℕ → ℕ × ℕ
met_in ladders octets q = (q, unwrap_or (row_of (ladder_at ladders q) octets) 0)

abbrev pub row_among : List (List LadderRow) → List ℕ → Option (ℕ × ℕ)
row_among ladders octets = option_map (met_in ladders octets) (position (has_row octets) ladders)

-- the first of these rows, the first of which has this number, whose octets another ladder has, and there the first ladder
abbrev pub met_or : ℕ → Option (ℕ × ℕ) → Option Meeting → Option Meeting
met_or k None later = later
met_or k (Some at) later = Some (record { row = k; other = at.0; other_row = at.1 })

abbrev pub meeting_from : List (List LadderRow) → ℕ → List LadderRow → Option Meeting
meeting_from ladders k [] = None
meeting_from ladders k (r ∷ rs) = met_or k (row_among ladders r.octets) (meeting_from ladders (k + 1) rs)
