-- The index of the rows up to its mark: it answers the first row with given octets, or else the rows after it do.
use Rattle.std.proofs.Common.{◌≡◌, ℕ, ◌<◌, ◌≤◌, ◌+◌, Bool, true, false, inl, inr, Option, Some, None, List, [], ◌∷◌, ◌++◌, length, map, take, drop, min, slice_get, sym, refl, ap, ◌∙◌, arith, ◌-◌}
use Rattle.std.specs.{Option.option_map, List.position, List.list_any, Str.bytes_eq}
use Rattle.key_terms.specs.declared.row.LadderRow.{LadderRow}
use Rattle.key_terms.specs.Ladder.{row_of, AreApart, IsIndexOf}
use Rattle.std.proofs.{lemmas.Bool.cases_lt, lemmas.Cmp.nat_list_eq_equiv, Math.Seq.take-length}
use Rattle.std.proofs.lemmas.List.{take-append-drop, length-take, length-drop, length-map, take-append-le}
use Rattle.std.proofs.lemmas.Option.{slice_get-map, slice_get_within, slice_get_cases}
use Rattle.key_terms.proofs.LadderLemmas.{stands}
use Rattle.key_terms.proofs.Places.{position_first, position_nowhere, position_hit, position_before, position_no, slice_get_stays, later_at, at_later, list_any_nowhere}

turned : (xs ys : List ℕ) → bytes_eq xs ys ≡ bytes_eq ys xs
turned xs ys = nat_list_eq_equiv.symm xs ys

-- the mark is no further than the rows
pub mark_within : (keys : List (List ℕ)) (rows : List LadderRow) → IsIndexOf keys rows → length keys ≤ length rows
mark_within keys rows index =
    let len : length keys ≡ min (length keys) (length rows) =
    ap length index ∙ length-map (take (length keys) rows) (λ r. r.octets) ∙ length-take (length keys) rows in
    omega (arith, len)

-- a row before the mark stands in the index
key_at : (keys : List (List ℕ)) (rows : List LadderRow) (j : ℕ) (y : LadderRow)
    → IsIndexOf keys rows
    → j < length keys
    → slice_get rows j ≡ Some y
    → slice_get keys j ≡ Some y.octets
key_at keys rows j y index lt at =
    let front = take (length keys) rows in
    let within = mark_within keys rows index in
    let len : length front ≡ min (length keys) (length rows) = length-take (length keys) rows in
    elim (slice_get_cases front j).1 [
      | inl h ↦
          let whole : slice_get rows j ≡ Some h.0 = ap (λ xs. slice_get xs j)
          (sym (take-append-drop (length keys) rows))
          ∙ slice_get_stays front (drop (length keys) rows) j h.0 h.2 in
          let row : h.0 ≡ y = cc in
          ap (λ ks. slice_get ks j) index ∙ slice_get-map (λ r. r.octets) front j ∙ ap (option_map (λ r. r.octets)) h.2 ∙ ap (λ r. Some r.octets) row
      | inr h ↦ absurd (omega (arith, len, h.0, lt, within))
    ]

-- and what stands in the index is a row's
row_at_key : (keys : List (List ℕ)) (rows : List LadderRow) (k : ℕ) (x : List ℕ)
    → IsIndexOf keys rows
    → slice_get keys k ≡ Some x
    → (r : LadderRow) × (slice_get rows k ≡ Some r) × (r.octets ≡ x)
row_at_key keys rows k x index at =
    let front = take (length keys) rows in
    let row = stands (λ r. r.octets) front k x (sym (slice_get-map (λ r. r.octets) front k) ∙ sym (ap (λ ks. slice_get ks k) index) ∙ at) in
    (row.0, ap (λ xs. slice_get xs k) (sym (take-append-drop (length keys) rows)) ∙ slice_get_stays front (drop (length keys) rows) k row.0 row.1, row.2)

-- what the index finds is the first row with the octets
pub index_hit : (keys : List (List ℕ)) (rows : List LadderRow) (octets : List ℕ) (k : ℕ)
    → IsIndexOf keys rows
    → position (bytes_eq octets) keys ≡ Some k
    → row_of rows octets ≡ Some k
index_hit keys rows octets k index found =
    let hit = position_hit (bytes_eq octets) keys k found in
    let row = row_at_key keys rows k hit.0 index hit.1 in
    let within = slice_get_within keys k hit.0 hit.1 in
    let passes : bytes_eq row.0.octets octets ≡ true = turned row.0.octets octets ∙ ap (bytes_eq octets) row.2 ∙ hit.2 in
    position_first (λ r. bytes_eq r.octets octets) rows k row.0 row.1 passes (λ j y lt at.
    turned y.octets octets ∙ position_before (bytes_eq octets) keys k j y.octets found lt (key_at keys rows j y index (omega (arith, lt, within)) at))

-- where the index finds none, the first is among the rows that came since
pub index_miss : (keys : List (List ℕ)) (rows : List LadderRow) (octets : List ℕ)
    → IsIndexOf keys rows
    → position (bytes_eq octets) keys ≡ None
    → row_of rows octets ≡ option_map (λ j. length keys + j) (row_of (drop (length keys) rows) octets)
index_miss keys rows octets index none = by (row_of (drop (length keys) rows) octets) refl
  where
    later : List LadderRow
    later = drop (length keys) rows

    passes : LadderRow → Bool
    passes r = bytes_eq r.octets octets

    -- no row of the index has the octets
    before : (j : ℕ) (y : LadderRow) → j < length keys → slice_get rows j ≡ Some y → passes y ≡ false
    before j y lt at = turned y.octets octets ∙ position_no (bytes_eq octets) keys j y.octets none (key_at keys rows j y index lt at)

    by : (o : Option ℕ) → row_of later octets ≡ o → row_of rows octets ≡ option_map (λ j. length keys + j) o
    by None e =
        position_nowhere passes rows (λ j y at. elim (cases_lt j (length keys)) [
          | inl lt ↦ before j y lt at
          | inr le ↦ position_no passes later (j - length keys) y e (at_later (length keys) rows j y le at)
        ])
    by (Some k) e =
        let hit = position_hit passes later k e in
        position_first passes rows (length keys + k) hit.0 (later_at (length keys) rows k hit.0 hit.1) hit.2 (λ j y lt at. elim (cases_lt j (length keys)) [
          | inl low ↦ before j y low at
          | inr le ↦ position_before passes later k (j - length keys) y e (omega (arith, lt, le)) (at_later (length keys) rows j y le at)
        ])

-- a row that came since is not in the index
pub absent : (keys : List (List ℕ)) (rows : List LadderRow) (k : ℕ) (r : LadderRow)
    → AreApart rows
    → IsIndexOf keys rows
    → length keys ≡ k
    → slice_get rows k ≡ Some r
    → list_any (bytes_eq r.octets) keys ≡ false
absent keys rows k r apart index mark at = by (position (bytes_eq r.octets) keys) refl
  where
    by : (o : Option ℕ) → position (bytes_eq r.octets) keys ≡ o → list_any (bytes_eq r.octets) keys ≡ false
    by None e = list_any_nowhere (bytes_eq r.octets) keys (λ j y at_j. position_no (bytes_eq r.octets) keys j y e at_j)
    by (Some j) e =
        let hit = position_hit (bytes_eq r.octets) keys j e in
        let within = slice_get_within keys j hit.0 hit.1 in
        let first : row_of rows r.octets ≡ Some j = index_hit keys rows r.octets j index e in
        let own : row_of rows r.octets ≡ Some k = apart k r.octets (ap (option_map (λ r'. r'.octets)) at) in
        let same : j ≡ k = cc in
        absurd (omega (arith, within, same, mark))

-- the index stays that of the rows with one more at their end
pub index_push : (keys : List (List ℕ)) (rows after : List LadderRow) (r : LadderRow) → after ≡ rows ++ r ∷ [] → IsIndexOf keys rows → IsIndexOf keys after
index_push keys rows after r put index =
    index ∙ ap (map (λ r'. r'.octets)) (sym (take-append-le (length keys) rows (r ∷ []) (mark_within keys rows index)) ∙ ap (take (length keys)) (sym put))

-- the same, as the code cuts the rows at the mark
pub index_later : (keys : List (List ℕ)) (rows : List LadderRow) (octets : List ℕ) (mark : ℕ) (o : Option ℕ)
    → IsIndexOf keys rows
    → position (bytes_eq octets) keys ≡ None
    → mark ≡ length keys
    → o ≡ row_of (take (length rows - mark) (drop mark rows)) octets
    → option_map (λ j. mark + j) o ≡ row_of rows octets
index_later keys rows octets mark o index none at found =
    let rest : take (length rows - mark) (drop mark rows) ≡ drop mark rows =
    ap (λ n. take n (drop mark rows)) (sym (length-drop mark rows)) ∙ take-length (drop mark rows) in
    let later : o ≡ row_of (drop mark rows) octets = found ∙ ap (λ rs. row_of rs octets) rest in
    ap (option_map (λ j. mark + j)) later ∙ ap (λ n. option_map (λ j. n + j) (row_of (drop n rows) octets)) at ∙ sym (index_miss keys rows octets index none)
