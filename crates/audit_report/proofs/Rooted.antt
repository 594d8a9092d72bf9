-- Each row of the ladder of a run comes from rows before it.
use Rattle.std.proofs.Common.{◌≡◌, ℕ, ◌+◌, ◌<◌, zero, suc, Bool, true, false, Option, Some, None, List, [], ◌∷◌, ◌++◌, length, sym, refl, subst, ◌∙◌, arith, length-append, append_assoc}
use Rattle.std.specs.{Prelude.slice_get, Str.bytes_eq}
use Rattle.std.proofs.lemmas.Option.{none-some}
use Rattle.key_model.specs.Derivation.{Input, FromCount, FromSync, FromCell, FromAlg, kdf_input}
use Rattle.key_terms.specs.declared.row.LadderRow.{LadderRow}
use Rattle.key_terms.specs.Ladder.{unheld, row_of, HasSync}
use Rattle.lte_machine.specs.Ladder.{RowOrigin, OfRoot, Of, row_key, same_origin, Clash, Ladder, Hit, hit, stands_or_not, added_at, added_unless, add_next, add_rows}
use Rattle.store_laws.specs.{Additions.CanAddTo, Additions.AllCanAdd, Joins.HasRow, Joins.Placed}
use Rattle.store_laws.specs.Rows.{origin_in, numbered_after, numbered}
use Rattle.store_laws.proofs.Numbered.{row_kept, number_of, numbered_grows}

abbrev pub Origins : Type 0
Origins = List (RowOrigin (List ℕ))

-- the key and the SYNC-input of a derivation have rows among these
abbrev pub Rooted : List LadderRow → RowOrigin (List ℕ) → Type 0
Rooted rows (OfRoot key) = Unit {0}
Rooted rows (Of d) = HasRow rows d.key × HasSync rows (kdf_input d.input)

-- each among those before it
abbrev pub AllRooted : List LadderRow → Origins → Type 0
AllRooted rows [] = Unit {0}
AllRooted rows (o ∷ os) = Rooted rows o × AllRooted (rows ++ unheld (origin_in rows o) (row_key o) ∷ []) os

rooted_more : (rows : List LadderRow) (os : Origins) (o : RowOrigin (List ℕ))
    → AllRooted rows os
    → Rooted (numbered_after rows os) o
    → AllRooted rows (os ++ o ∷ [])
rooted_more rows [] o all one = (one, tt)
rooted_more rows (x ∷ os) o all one = (all.0, rooted_more (rows ++ unheld (origin_in rows x) (row_key x) ∷ []) os o all.1 one)

-- a derivation that can be added is rooted, and so are all rows to which it is added
can_rooted : (os : Origins) (o : RowOrigin (List ℕ)) → CanAddTo os o → Rooted (numbered os) o
can_rooted os (OfRoot key) can = tt
can_rooted os (Of d) can = (can.key, can.sync)

added_rooted : (os : Origins) (o : RowOrigin (List ℕ)) (h : Option (Hit (List ℕ)))
    → AllRooted [] os
    → Rooted (numbered os) o
    → AllRooted [] (added_at bytes_eq os o h).rows
added_rooted os o None all one = rooted_more [] os o all one
added_rooted os o (Some h) all one = by (same_origin bytes_eq h.found o)
  where
    by : (b : Bool) → AllRooted [] (stands_or_not b os h.place o).rows
    by true = all
    by false = all

next_rooted : (c : Option (Clash (List ℕ))) (os : Origins) (o : RowOrigin (List ℕ))
    → AllRooted [] os
    → (c ≡ None → CanAddTo os o)
    → AllRooted [] (added_unless c bytes_eq os o).rows
next_rooted None os o all can = added_rooted os o (hit bytes_eq (row_key o) os) all (can_rooted os o (can refl))
next_rooted (Some c) os o all can = all

pub rows_rooted : (l : Ladder (List ℕ)) (os : Origins) → AllRooted [] l.rows → AllCanAdd l os → AllRooted [] (add_rows bytes_eq l os).rows
rows_rooted l [] all can = all
rows_rooted l (o ∷ os) all can = rows_rooted (add_next bytes_eq l o) os (next_rooted l.clash l.rows o all can.0) can.1

pub rooted_placed : (rows : List LadderRow) (os : Origins) → AllRooted rows os → Placed rows os
rooted_placed rows [] all = tt
rooted_placed rows (OfRoot key ∷ os) all = rooted_placed (rows ++ unheld (origin_in rows (OfRoot key)) key ∷ []) os all.1
rooted_placed rows (Of d ∷ os) all = (all.0.0, rooted_placed (rows ++ unheld (origin_in rows (Of d)) d.out ∷ []) os all.1)

-- A ROW THAT COMES BEFORE

-- the row of a key comes before place n
abbrev pub Earlier : List LadderRow → ℕ → List ℕ → Type 0
Earlier rows n key = (j : ℕ) × (row_of rows key ≡ Some j) × (j < n)

abbrev pub SyncEarlier : List LadderRow → ℕ → Input (List ℕ) → Type 0
SyncEarlier rows n (FromSync sync) = Earlier rows n sync
SyncEarlier rows n other = Unit {0}

abbrev pub ComesEarlier : List LadderRow → ℕ → RowOrigin (List ℕ) → Type 0
ComesEarlier rows n (OfRoot key) = Unit {0}
ComesEarlier rows n (Of d) = Earlier rows n d.key × SyncEarlier rows n d.input

earlier : (rows more : List LadderRow) (key : List ℕ) → HasRow rows key → Earlier (rows ++ more) (length rows) key
earlier rows more key h = let n = number_of rows key h in (n.0, row_kept rows more key h ∙ n.1, n.2)

sync_earlier : (rows more : List LadderRow) (i : Input (List ℕ)) → HasSync rows (kdf_input i) → SyncEarlier (rows ++ more) (length rows) i
sync_earlier rows more (FromCount n) h = tt
sync_earlier rows more (FromSync sync) h = earlier rows more sync h
sync_earlier rows more (FromCell pci earfcn) h = tt
sync_earlier rows more (FromAlg type id) h = tt

comes_earlier : (rows more : List LadderRow) (o : RowOrigin (List ℕ)) → Rooted rows o → ComesEarlier (rows ++ more) (length rows) o
comes_earlier rows more (OfRoot key) r = tt
comes_earlier rows more (Of d) r = (earlier rows more d.key r.0, sync_earlier rows more d.input r.1)

pub earlier_at : (rows : List LadderRow) (os : Origins) (k : ℕ) (o : RowOrigin (List ℕ))
    → AllRooted rows os
    → slice_get os k ≡ Some o
    → ComesEarlier (numbered_after rows os) (length rows + k) o
earlier_at rows [] k o all at = absurd (none-some o at)
earlier_at rows (x ∷ os) zero o all at =
    let one : LadderRow = unheld (origin_in rows x) (row_key x) in
    let later = numbered_grows (rows ++ one ∷ []) os in
    let whole : numbered_after rows (x ∷ os) ≡ rows ++ (one ∷ later.0) = later.1 ∙ append_assoc rows (one ∷ []) later.0 in
    let is : x ≡ o = cc in
    let place : length rows ≡ length rows + 0 = omega arith in
    subst (λ n. ComesEarlier (numbered_after rows (x ∷ os)) n o) place
    (subst (λ rs. ComesEarlier rs (length rows) o) (sym whole) (comes_earlier rows (one ∷ later.0) o (subst (Rooted rows) is all.0)))
earlier_at rows (x ∷ os) (suc k) o all at =
    let one : LadderRow = unheld (origin_in rows x) (row_key x) in
    let longer = length-append rows (one ∷ []) in
    let place : length (rows ++ one ∷ []) + k ≡ length rows + suc k = omega (arith, longer) in
    subst (λ n. ComesEarlier (numbered_after rows (x ∷ os)) n o) place (earlier_at (rows ++ one ∷ []) os k o all.1 at)
