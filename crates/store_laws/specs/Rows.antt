-- The ladder of a run as the program keeps it: each row with the number of the row that its key comes from, and who held it.
use Rattle.std.specs.Prelude.{ℕ, List, [], ◌∷◌, ◌++◌, unwrap_or}
use Rattle.std.specs.Str.{bytes_eq}
use Rattle.key_model.specs.Derivation.{derived_of}
use Rattle.key_terms.specs.{declared.row.Holder.Holder, declared.row.LadderRow.LadderRow, declared.row.Origin.Origin}
use Rattle.key_terms.specs.Ladder.{unheld, holding, row_of, origin_of}
use Rattle.lte_machine.specs.Ladder.{RowOrigin, OfRoot, Of, row_key, ladder_of}
use Rattle.lte_machine.specs.World as world
use Rattle.lte_machine.specs.World.{Holding, World}

-- a root, or a derivation by the number of the row of its key
abbrev pub origin_in : List LadderRow → RowOrigin (List ℕ) → Origin
origin_in rows (OfRoot key) = Origin.Root
origin_in rows (Of d) = origin_of rows (derived_of d)

-- the rows, and one for each of these origins after them, which nobody holds
abbrev pub numbered_after : List LadderRow → List (RowOrigin (List ℕ)) → List LadderRow
numbered_after rows [] = rows
numbered_after rows (o ∷ os) = numbered_after (rows ++ unheld (origin_in rows o) (row_key o) ∷ []) os

abbrev pub numbered : List (RowOrigin (List ℕ)) → List LadderRow
numbered os = numbered_after [] os

-- who holds a key
abbrev pub holder_of : world.Holder → Holder
holder_of world.AtPhone = Holder.Phone
holder_of world.AtCore = Holder.Core
holder_of (world.AtStation id) = Holder.Station id

-- the rows, with one holder noted in the row of its key
abbrev pub noted : List LadderRow → Holding (List ℕ) → List LadderRow
noted rows h = holding (holder_of h.holder) (unwrap_or (row_of rows h.key) 0) rows

-- and with each of these
abbrev pub all_noted : List LadderRow → List (Holding (List ℕ)) → List LadderRow
all_noted rows [] = rows
all_noted rows (h ∷ hs) = all_noted (noted rows h) hs

-- the rows of these roots and derivations, each once, with all who held their keys
abbrev pub rows_of : List (RowOrigin (List ℕ)) → List (Holding (List ℕ)) → List LadderRow
rows_of history held = all_noted (numbered (ladder_of bytes_eq history).rows) held

-- the rows of a world
abbrev pub world_rows : {S : Type 0} → World (List ℕ) ℕ S → List LadderRow
world_rows w = rows_of w.history w.held
