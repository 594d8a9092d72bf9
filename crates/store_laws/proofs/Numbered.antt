-- The rows of a ladder, numbered and with their holders: what more rows and more holders leave as it was.
use Rattle.std.proofs.Common.{◌≡◌, ℕ, ◌+◌, ◌<◌, zero, suc, Bool, true, false, Option, Some, None, List, [], ◌∷◌, ◌++◌, length, map, sym, refl, ap, subst, ◌∙◌, arith, length-append, cond, append_assoc, append-nil}
use Rattle.std.proofs.{lemmas.Bool.false≢true, lemmas.Iterator.Adapters.position_from-zero, lemmas.Option.none-some, lemmas.Option.slice_get_within}
use Rattle.std.specs.Prelude.{slice_get, unwrap_or, position, IsSome, option_map}
use Rattle.std.specs.{List.position_from, List.AllByRecursion as AllOf, Str.bytes_eq}
use Rattle.key_model.specs.Derivation.{kdf_input}
use Rattle.key_terms.specs.{declared.row.LadderRow.LadderRow, declared.row.Origin.Origin, declared.row.Holder.Holder}
use Rattle.key_terms.specs.Ladder.{unheld, holding, row, row_of, origin_at}
use Rattle.key_terms.proofs.LadderLemmas.{found_row}
use Rattle.key_terms.proofs.Places.{position_stays, position_map, slice_get_stays, slice_get_at_end}
use Rattle.key_terms.proofs.Holding.{plain, plain_holding, read_same, row_of_same}
use Rattle.lte_machine.specs.Ladder.{RowOrigin, OfRoot, Of, row_key, Hit, hit_if, hit_from, hit}
use Rattle.lte_machine.specs.World.{Holding}
use Rattle.store_laws.specs.Joins.{HasRow, Placed}
use Rattle.store_laws.specs.Rows.{origin_in, numbered_after, numbered, noted, all_noted, holder_of}

-- a first place stays the first in a longer list
pub position_kept : {X : Type 0} (p : X → Bool) (xs ys : List X) (k : ℕ) → position p xs ≡ Some k → position p (xs ++ ys) ≡ Some k
position_kept p xs [] k e = ap (position p) (append-nil xs) ∙ e
position_kept p xs (y ∷ ys) k e = ap (position p) (sym (append_assoc xs (y ∷ []) ys)) ∙ position_kept p (xs ++ y ∷ []) ys k (position_stays p xs y k e)

-- its number is the same among more rows
pub row_kept : (rows more : List LadderRow) (key : List ℕ) → HasRow rows key → row_of (rows ++ more) key ≡ row_of rows key
row_kept rows more key h = by (row_of rows key) refl h
  where
    by : (o : Option ℕ) → row_of rows key ≡ o → IsSome o → row_of (rows ++ more) key ≡ row_of rows key
    by None e s = absurd (false≢true s)
    by (Some k) e s = position_kept (λ r. bytes_eq r.octets key) rows more k e ∙ sym e

-- MORE ROWS

pub numbered_append : (rows : List LadderRow) (os ps : List (RowOrigin (List ℕ))) → numbered_after rows (os ++ ps) ≡ numbered_after (numbered_after rows os) ps
numbered_append rows [] ps = refl
numbered_append rows (o ∷ os) ps = numbered_append (rows ++ unheld (origin_in rows o) (row_key o) ∷ []) os ps

pub numbered_more : (os : List (RowOrigin (List ℕ))) (o : RowOrigin (List ℕ))
    → numbered (os ++ o ∷ []) ≡ numbered os ++ unheld (origin_in (numbered os) o) (row_key o) ∷ []
numbered_more os o = numbered_append [] os (o ∷ [])

pub octets_after : (rows : List LadderRow) (os : List (RowOrigin (List ℕ)))
    → map (λ r. r.octets) (numbered_after rows os) ≡ map (λ r. r.octets) rows ++ map row_key os
octets_after rows [] = sym (append-nil (map (λ r. r.octets) rows))
octets_after rows (o ∷ os) =
    octets_after (rows ++ unheld (origin_in rows o) (row_key o) ∷ []) os
    ∙ ap (λ l. l ++ map row_key os) (mapped rows (unheld (origin_in rows o) (row_key o)))
    ∙ append_assoc (map (λ r. r.octets) rows) (row_key o ∷ []) (map row_key os)
  where
    mapped : (rows : List LadderRow) (r : LadderRow) → map (λ x. x.octets) (rows ++ r ∷ []) ≡ map (λ x. x.octets) rows ++ r.octets ∷ []
    mapped [] r = refl
    mapped (x ∷ rows) r = ap (λ l. x.octets ∷ l) (mapped rows r)

pub octets_numbered : (os : List (RowOrigin (List ℕ))) → map (λ r. r.octets) (numbered os) ≡ map row_key os
octets_numbered os = octets_after [] os

-- HITS

position_is_from : {X : Type 0} (p : X → Bool) (xs : List X) → position p xs ≡ position_from p 0 xs
position_is_from p xs = position_from-zero p xs

-- the place of a hit is the first row with the key
hit_place : (key : List ℕ) (i : ℕ) (os : List (RowOrigin (List ℕ)))
    → option_map (λ h. h.place) (hit_from bytes_eq key i os) ≡ position_from (λ o. bytes_eq (row_key o) key) i os
hit_place key i [] = refl
hit_place key i (o ∷ os) = by (bytes_eq (row_key o) key) (hit_place key (i + 1) os)
  where
    by : (b : Bool) → option_map (λ h. h.place) (hit_from bytes_eq key (i + 1) os) ≡ position_from (λ o. bytes_eq (row_key o) key) (i + 1) os →
        option_map (λ h. h.place) (hit_if b (record { place = i; found = o }) (hit_from bytes_eq key (i + 1) os))
        ≡ cond b (Some i) (position_from (λ o. bytes_eq (row_key o) key) (i + 1) os)
    by true later = refl
    by false later = later

pub hit_row : (key : List ℕ) (os : List (RowOrigin (List ℕ))) → option_map (λ h. h.place) (hit bytes_eq key os) ≡ row_of (numbered os) key
hit_row key os =
    hit_place key 0 os
    ∙ sym (position_is_from (λ o. bytes_eq (row_key o) key) os)
    ∙ sym (position_map row_key (λ k. bytes_eq k key) os)
    ∙ ap (position (λ k. bytes_eq k key)) (sym (octets_numbered os))
    ∙ position_map (λ r. r.octets) (λ k. bytes_eq k key) (numbered os)

-- and what it found stands there
hit_found : (key : List ℕ) (i : ℕ) (os : List (RowOrigin (List ℕ))) (h : Hit (List ℕ))
    → hit_from bytes_eq key i os ≡ Some h
    → (j : ℕ) × (h.place ≡ i + j) × (slice_get os j ≡ Some h.found)
hit_found key i [] h e = absurd (none-some h e)
hit_found key i (o ∷ os) h e = by (bytes_eq (row_key o) key) e (hit_found key (i + 1) os h)
  where
    by : (b : Bool) → hit_if b (record { place = i; found = o }) (hit_from bytes_eq key (i + 1) os) ≡ Some h →
        (hit_from bytes_eq key (i + 1) os ≡ Some h → (j : ℕ) × (h.place ≡ (i + 1) + j) × (slice_get os j ≡ Some h.found)) →
        (j : ℕ) × (h.place ≡ i + j) × (slice_get (o ∷ os) j ≡ Some h.found)
    by true e onward = let is : record { place = i; found = o } ≡ h = cc in (0, sym (ap (λ x. x.place) is) ∙ omega arith, ap (λ x. Some x.found) is)
    by false e onward = let later = onward e in (suc later.0, later.1 ∙ omega arith, later.2)

pub hit_at : (key : List ℕ) (os : List (RowOrigin (List ℕ))) (h : Hit (List ℕ)) → hit bytes_eq key os ≡ Some h → slice_get os h.place ≡ Some h.found
hit_at key os h e =
    let f = hit_found key 0 os h e in
    let place : h.place ≡ f.0 = f.1 ∙ omega arith in
    ap (slice_get os) place ∙ f.2

-- HOLDERS

pub all_noted_append : (rows : List LadderRow) (hs is : List (Holding (List ℕ))) → all_noted rows (hs ++ is) ≡ all_noted (all_noted rows hs) is
all_noted_append rows [] is = refl
all_noted_append rows (h ∷ hs) is = all_noted_append (noted rows h) hs is

-- they leave origins and octets as they are
pub plain_noted : (rows : List LadderRow) (hs : List (Holding (List ℕ))) → map plain (all_noted rows hs) ≡ map plain rows
plain_noted rows [] = refl
plain_noted rows (h ∷ hs) = plain_noted (noted rows h) hs ∙ plain_holding (holder_of h.holder) (unwrap_or (row_of rows h.key) 0) rows

pub row_noted : (rows : List LadderRow) (hs : List (Holding (List ℕ))) (key : List ℕ) → row_of (all_noted rows hs) key ≡ row_of rows key
row_noted rows hs key = row_of_same rows (all_noted rows hs) (plain_noted rows hs) key

pub origin_noted : (rows : List LadderRow) (hs : List (Holding (List ℕ))) (k : ℕ) → origin_at (all_noted rows hs) k ≡ origin_at rows k
origin_noted rows hs k = read_same (λ p. p.0) rows (all_noted rows hs) (plain_noted rows hs) k

-- a holder of a row that stands is noted among more rows as among these
holding_kept : (who : Holder) (k : ℕ) (rows more : List LadderRow) → k < length rows → holding who k (rows ++ more) ≡ holding who k rows ++ more
holding_kept who k [] more lt = absurd (omega (arith, lt))
holding_kept who zero (r ∷ rows) more lt = refl
holding_kept who (suc k) (r ∷ rows) more lt = ap (λ l. r ∷ l) (holding_kept who k rows more (omega (arith, lt)))

-- the number of a row that stands
pub number_of : (rows : List LadderRow) (key : List ℕ) → HasRow rows key → (k : ℕ) × (row_of rows key ≡ Some k) × (k < length rows)
number_of rows key h = by (row_of rows key) refl h
  where
    by : (o : Option ℕ) → row_of rows key ≡ o → IsSome o → (k : ℕ) × (row_of rows key ≡ Some k) × (k < length rows)
    by None e s = absurd (false≢true s)
    by (Some k) e s = let row = found_row rows key k e in (k, e, slice_get_within rows k row.0 row.1)

noted_kept : (rows more : List LadderRow) (h : Holding (List ℕ)) → HasRow rows h.key → noted (rows ++ more) h ≡ noted rows h ++ more
noted_kept rows more h stands =
    let n = number_of rows h.key stands in
    ap (λ o. holding (holder_of h.holder) (unwrap_or o 0) (rows ++ more)) (row_kept rows more h.key stands ∙ n.1)
    ∙ holding_kept (holder_of h.holder) n.0 rows more n.2
    ∙ ap (λ o. holding (holder_of h.holder) (unwrap_or o 0) rows ++ more) (sym n.1)

-- more rows, where each key that was held has a row among these
pub all_noted_kept : (rows more : List LadderRow) (hs : List (Holding (List ℕ)))
    → AllOf (λ h. HasRow rows h.key) hs
    → all_noted (rows ++ more) hs ≡ all_noted rows hs ++ more
all_noted_kept rows more [] stand = refl
all_noted_kept rows more (h ∷ hs) stand =
    ap (λ rs. all_noted rs hs) (noted_kept rows more h stand.0)
    ∙ all_noted_kept (noted rows h) more hs (still hs stand.1)
  where
    still : (is : List (Holding (List ℕ))) → AllOf (λ i. HasRow rows i.key) is → AllOf (λ i. HasRow (noted rows h) i.key) is
    still [] s = tt
    still (i ∷ is) s = (subst IsSome (sym (row_noted rows (h ∷ []) i.key)) s.0, still is s.1)

-- PLACED

placed_tail : (rows : List LadderRow) (o : RowOrigin (List ℕ)) (os : List (RowOrigin (List ℕ)))
    → Placed rows (o ∷ os)
    → Placed (rows ++ unheld (origin_in rows o) (row_key o) ∷ []) os
placed_tail rows (OfRoot key) os p = p
placed_tail rows (Of d) os p = p.1

-- the key that an origin comes from has a row
abbrev pub FromRow : List LadderRow → RowOrigin (List ℕ) → Type 0
FromRow rows (OfRoot key) = Unit {0}
FromRow rows (Of d) = HasRow rows d.key

placed_head : (rows : List LadderRow) (o : RowOrigin (List ℕ)) (os : List (RowOrigin (List ℕ))) → Placed rows (o ∷ os) → FromRow rows o
placed_head rows (OfRoot key) os p = tt
placed_head rows (Of d) os p = p.0

pub placed_more : (rows : List LadderRow) (os : List (RowOrigin (List ℕ))) (o : RowOrigin (List ℕ))
    → Placed rows os
    → FromRow (numbered_after rows os) o
    → Placed rows (os ++ o ∷ [])
placed_more rows [] (OfRoot key) p f = tt
placed_more rows [] (Of d) p f = (f, tt)
placed_more rows (OfRoot key ∷ os) o p f = placed_more (rows ++ unheld (origin_in rows (OfRoot key)) key ∷ []) os o p f
placed_more rows (Of d ∷ os) o p f = (p.0, placed_more (rows ++ unheld (origin_in rows (Of d)) d.out ∷ []) os o p.1 f)

-- the rows after others begin with those
pub numbered_grows : (rows : List LadderRow) (os : List (RowOrigin (List ℕ))) → (more : List LadderRow) × (numbered_after rows os ≡ rows ++ more)
numbered_grows rows [] = ([], sym (append-nil rows))
numbered_grows rows (o ∷ os) =
    let later = numbered_grows (rows ++ unheld (origin_in rows o) (row_key o) ∷ []) os in
    (unheld (origin_in rows o) (row_key o) ∷ later.0, later.1 ∙ append_assoc rows (unheld (origin_in rows o) (row_key o) ∷ []) later.0)

-- an origin names the same row among more rows
origin_kept : (rows more : List LadderRow) (o : RowOrigin (List ℕ)) → FromRow rows o → origin_in (rows ++ more) o ≡ origin_in rows o
origin_kept rows more (OfRoot key) f = refl
origin_kept rows more (Of d) f = ap (λ n. Origin.From (row (unwrap_or n 0)) (kdf_input d.input)) (row_kept rows more d.key f)

fromrow_kept : (rows more : List LadderRow) (o : RowOrigin (List ℕ)) → FromRow rows o → FromRow (rows ++ more) o
fromrow_kept rows more (OfRoot key) f = tt
fromrow_kept rows more (Of d) f = subst IsSome (sym (row_kept rows more d.key f)) f

-- what stands at a place of the numbered rows: the origin that was numbered there, and it is from a row
pub origin_stands : (rows : List LadderRow) (os : List (RowOrigin (List ℕ))) (k : ℕ) (o : RowOrigin (List ℕ)) → Placed rows os → slice_get os k ≡ Some o →
    (origin_at (numbered_after rows os) (length rows + k) ≡ Some (origin_in (numbered_after rows os) o)) × FromRow (numbered_after rows os) o
origin_stands rows [] k o p e = absurd (none-some o e)
origin_stands rows (x ∷ os) zero o p e =
    let one : LadderRow = unheld (origin_in rows x) (row_key x) in
    let later = numbered_grows (rows ++ one ∷ []) os in
    let whole : numbered_after rows (x ∷ os) ≡ rows ++ (one ∷ later.0) = later.1 ∙ append_assoc rows (one ∷ []) later.0 in
    let is : x ≡ o = cc in
    let from : FromRow rows o = subst (FromRow rows) is (placed_head rows x os p) in
    let place : length rows + 0 ≡ length rows = omega arith in
    let stands : slice_get ((rows ++ one ∷ []) ++ later.0) (length rows) ≡ Some one =
    slice_get_stays (rows ++ one ∷ []) later.0 (length rows) one (slice_get_at_end rows one) in (
      ap (origin_at (numbered_after rows (x ∷ os))) place
          ∙ ap (λ rs. origin_at rs (length rows)) later.1
          ∙ ap (option_map (λ r. r.origin)) stands
          ∙ ap (λ y. Some (origin_in rows y)) is
          ∙ ap Some (sym (origin_kept rows (one ∷ later.0) o from))
          ∙ ap (λ rs. Some (origin_in rs o)) (sym whole),
      subst (λ rs. FromRow rs o) (sym whole) (fromrow_kept rows (one ∷ later.0) o from),
    )
origin_stands rows (x ∷ os) (suc k) o p e =
    let one : LadderRow = unheld (origin_in rows x) (row_key x) in
    let later = origin_stands (rows ++ one ∷ []) os k o (placed_tail rows x os p) e in
    let longer = length-append rows (one ∷ []) in
    let place : length rows + suc k ≡ length (rows ++ one ∷ []) + k = omega (arith, longer) in
    (ap (origin_at (numbered_after rows (x ∷ os))) place ∙ later.0, later.1)
