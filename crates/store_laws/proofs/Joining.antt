-- One root or derivation more: the machine's ladder and the program's do the same with it.
use Rattle.std.proofs.Common.{◌≡◌, ◌≢◌, ℕ, ◌+◌, Bool, true, false, Option, Some, None, Result, List, [], ◌∷◌, ◌++◌, length, sym, refl, ap, subst, ◌∙◌, arith}
use Rattle.std.specs.Prelude.{slice_get, unwrap_or, IsSome, option_map, ◌&&◌}
use Rattle.std.specs.{Str.bytes_eq, List.AllByRecursion as AllOf}
use Rattle.std.proofs.{lemmas.Bool.false≢true, lemmas.Bool.Decides.Decides-and, lemmas.Bool.Decides.Decides-eqb, lemmas.Slice.Eq.bytes_eq-Decides}
use Rattle.hmac_kdf.specs.declared.input.KdfInput.{KdfInput}
use Rattle.key_model.specs.Derivation.{Input, FromCount, FromSync, FromCell, FromAlg, Derivation, derived_of, kdf_input}
use Rattle.key_terms.specs.{declared.ladder.LadderFault.LadderFault, declared.row.LadderRow.LadderRow, declared.row.Origin.Origin, declared.row.Row.Row}
use Rattle.key_terms.specs.Ladder.{unheld, holding, row, row_of, origin_at, origin_of}
use Rattle.key_terms.proofs.LadderLemmas.{found_row}
use Rattle.lte_machine.specs.Ladder.{RowOrigin, OfRoot, Of, row_key, same_input, same_origin, Hit, hit, stands_or_not, added_at, add_row, root_place, root_if, root_row}
use Rattle.lte_machine.specs.World.{Holding}
use Rattle.store_laws.specs.Rows.{origin_in, numbered, holder_of, noted, all_noted}
use Rattle.lte_machine.proofs.KnownLists.{all_append}
use Rattle.store_laws.specs.Joins.{HasRow, Keeps, Adds, ComesTo, Roots, RootComesTo}
use Rattle.store_laws.proofs.Numbered.{FromRow, row_kept, number_of, hit_row, hit_at, placed_more, origin_stands, numbered_more, row_noted, origin_noted, all_noted_append, all_noted_kept}

-- two keys with rows of one number are one
one_row : (rows : List LadderRow) (a b : List ℕ) → HasRow rows a → HasRow rows b → unwrap_or (row_of rows a) 0 ≡ unwrap_or (row_of rows b) 0 → a ≡ b
one_row rows a b h i e =
    let m = number_of rows a h in
    let n = number_of rows b i in
    let at : m.0 ≡ n.0 = sym (ap (λ o. unwrap_or o 0) m.1) ∙ e ∙ ap (λ o. unwrap_or o 0) n.1 in
    let first = found_row rows a m.0 m.1 in
    let second = found_row rows b n.0 n.1 in
    let same : Some first.0 ≡ Some second.0 = sym first.1 ∙ ap (slice_get rows) at ∙ second.1 in
    let rows_same : first.0 ≡ second.0 = cc in
    sym first.2 ∙ ap (λ r. r.octets) rows_same ∙ second.2

-- inputs

input_is : (i j : Input (List ℕ)) → same_input bytes_eq i j ≡ true → kdf_input i ≡ kdf_input j
input_is (FromCount m) (FromCount n) e = ap kdf_input (ap FromCount ((Decides-eqb m n).0 e))
input_is (FromSync a) (FromSync b) e = ap kdf_input (ap FromSync ((bytes_eq-Decides a b).0 e))
input_is (FromCell p q) (FromCell r s) e =
    let both = (Decides-and _ _ (Decides-eqb p r) (Decides-eqb q s)).0 e in λ j. kdf_input (FromCell (both.0 j) (both.1 j))
input_is (FromAlg p q) (FromAlg r s) e =
    let both = (Decides-and _ _ (Decides-eqb p r) (Decides-eqb q s)).0 e in λ j. kdf_input (FromAlg (both.0 j) (both.1 j))
input_is i j e = absurd (false≢true e)

input_same : (i j : Input (List ℕ)) → kdf_input i ≡ kdf_input j → same_input bytes_eq i j ≡ true
input_same (FromCount m) (FromCount n) e = (Decides-eqb m n).1 cc
input_same (FromSync a) (FromSync b) e = (bytes_eq-Decides a b).1 cc
input_same (FromCell p q) (FromCell r s) e = (Decides-and _ _ (Decides-eqb p r) (Decides-eqb q s)).1 (cc, cc)
input_same (FromAlg p q) (FromAlg r s) e = (Decides-and _ _ (Decides-eqb p r) (Decides-eqb q s)).1 (cc, cc)
input_same i j e = cc

-- ORIGINS

origin_is : (rows : List LadderRow) (a : RowOrigin (List ℕ)) (d : Derivation (List ℕ))
    → same_origin bytes_eq a (Of d) ≡ true
    → origin_in rows a ≡ origin_in rows (Of d)
origin_is rows (OfRoot key) d e = absurd (false≢true e)
origin_is rows (Of g) d e =
    let key = bytes_eq-Decides g.key d.key in
    let both = and_is (bytes_eq g.key d.key) (same_input bytes_eq g.input d.input) e in
    λ j. Origin.From (row (unwrap_or (row_of rows (key.0 both.0 j)) 0)) (input_is g.input d.input both.1 j)
  where
    and_is : (a b : Bool) → (a && b) ≡ true → (a ≡ true) × (b ≡ true)
    and_is true true e = (refl, refl)
    and_is true false e = absurd (false≢true e)
    and_is false b e = absurd (false≢true e)

abbrev number_in : ℕ → Origin → ℕ
number_in n Origin.Root = n
number_in n (Origin.From r input) = r.0

abbrev input_in : KdfInput → Origin → KdfInput
input_in i Origin.Root = i
input_in i (Origin.From r input) = input

origin_same : (rows : List LadderRow) (a : RowOrigin (List ℕ)) (d : Derivation (List ℕ))
    → FromRow rows a
    → HasRow rows d.key
    → origin_in rows a ≡ origin_in rows (Of d)
    → same_origin bytes_eq a (Of d) ≡ true
origin_same rows (OfRoot key) d f h e = cc
origin_same rows (Of g) d f h e =
    let number : unwrap_or (row_of rows g.key) 0 ≡ unwrap_or (row_of rows d.key) 0 = ap (number_in 0) e in
    let input : kdf_input g.input ≡ kdf_input d.input = ap (input_in (kdf_input g.input)) e in
    λ j. (bytes_eq-Decides g.key d.key).1 (one_row rows g.key d.key f h number) j && input_same g.input d.input input j

-- LADDERS

held_more : (os : List (RowOrigin (List ℕ))) (o : RowOrigin (List ℕ)) (held : List (Holding (List ℕ)))
    → AllOf (λ h. HasRow (numbered os) h.key) held
    → AllOf (λ h. HasRow (numbered (os ++ o ∷ [])) h.key) held
held_more os o [] a = tt
held_more os o (h ∷ held) a = (
  subst IsSome (sym (ap (λ rs. row_of rs h.key) (numbered_more os o)
      ∙ row_kept (numbered os) (unheld (origin_in (numbered os) o) (row_key o) ∷ []) h.key a.0))
      a.0,
  held_more os o held a.1,
)

-- with a new row at the end
keeps_more : (os : List (RowOrigin (List ℕ))) (o : RowOrigin (List ℕ)) (held : List (Holding (List ℕ)))
    (before after : List LadderRow) → Keeps os held before → FromRow (numbered os) o →
    after ≡ before ++ unheld (origin_in (numbered os) o) (row_key o) ∷ [] → Keeps (os ++ o ∷ []) held after
keeps_more os o held before after k f put = record {
  are =
      put ∙ ap (λ rs. rs ++ unheld (origin_in (numbered os) o) (row_key o) ∷ []) k.are
      ∙ sym (all_noted_kept (numbered os) (unheld (origin_in (numbered os) o) (row_key o) ∷ []) held k.stand)
      ∙ ap (λ rs. all_noted rs held) (sym (numbered_more os o));
  placed = placed_more [] os o k.placed f;
  stand = held_more os o held k.stand;
}

module _ (os : List (RowOrigin (List ℕ))) (held : List (Holding (List ℕ))) (before : List LadderRow) (k : Keeps os held before) where
  -- the rows, as they are looked up
  row_before : (key : List ℕ) → row_of before key ≡ row_of (numbered os) key
  row_before key = ap (λ rs. row_of rs key) k.are ∙ row_noted (numbered os) held key

  origin_before : (d : Derivation (List ℕ)) → origin_of before (derived_of d) ≡ origin_in (numbered os) (Of d)
  origin_before d = ap (λ n. Origin.From (row (unwrap_or n 0)) (kdf_input d.input)) (row_before d.key)

  at_before : (n : ℕ) → origin_at before n ≡ origin_at (numbered os) n
  at_before n = ap (λ rs. origin_at rs n) k.are ∙ origin_noted (numbered os) held n

  -- a hit is a row
  hit_before : (key : List ℕ) (x : Option (Hit (List ℕ))) → hit bytes_eq key os ≡ x → row_of before key ≡ option_map (λ h. h.place) x
  hit_before key x e = row_before key ∙ sym (hit_row key os) ∙ ap (option_map (λ h. h.place)) e

  found_before : (key : List ℕ) (h : Hit (List ℕ))
      → hit bytes_eq key os ≡ Some h
      → (origin_at before h.place ≡ Some (origin_in (numbered os) h.found)) × FromRow (numbered os) h.found
  found_before key h e =
      let stands = origin_stands [] os h.place h.found k.placed (hit_at key os h e) in
      let place : h.place ≡ 0 + h.place = omega arith in
      (at_before h.place ∙ ap (origin_at (numbered os)) place ∙ stands.0, stands.1)

  module _ (d : Derivation (List ℕ)) (f : HasRow (numbered os) d.key) (after : List LadderRow)
      (result : Result Row LadderFault) (a : Adds before after (derived_of d) result) where
    adds_new : hit bytes_eq d.out os ≡ None → ComesTo None (Of d) (os ++ Of d ∷ []) held after result
    adds_new e =
        let done = a.new (hit_before d.out None e) in (
          (row (length before), done.0),
          keeps_more os (Of d) held before after k f (done.1 ∙ ap (λ o. before ++ unheld o d.out ∷ []) (origin_before d)),
        )

    -- by whether the row found is the same derivation
    adds_by : (h : Hit (List ℕ)) → hit bytes_eq d.out os ≡ Some h → (b : Bool) → same_origin bytes_eq h.found (Of d) ≡ b →
        ComesTo (stands_or_not b os h.place (Of d)).clash (Of d) (stands_or_not b os h.place (Of d)).rows held after result
    adds_by h e true s =
        let found = found_before d.out h e in
        let done = a.again h.place (hit_before d.out (Some h) e) (found.0 ∙ ap Some (origin_is (numbered os) h.found d s ∙ sym (origin_before d))) in
        ((row h.place, done.0), subst (Keeps os held) (sym done.1) k)
    adds_by h e false s =
        let found = found_before d.out h e in
        let other : origin_at before h.place ≢ Some (origin_of before (derived_of d)) = λ is.
        let both : Some (origin_in (numbered os) h.found) ≡ Some (origin_of before (derived_of d)) = sym found.0 ∙ is in
        let same : origin_in (numbered os) h.found ≡ origin_in (numbered os) (Of d) = ap (from_some Origin.Root) both ∙ origin_before d in
        false≢true (sym s ∙ origin_same (numbered os) h.found d found.1 f same) in
        ((origin_of before (derived_of d), a.coincidence h.place (record { stands = hit_before d.out (Some h) e; other = other })), refl)
      where
        from_some : Origin → Option Origin → Origin
        from_some o None = o
        from_some o (Some x) = x

    -- a derivation is added as the machine adds it
    pub adds : ComesTo (add_row bytes_eq os (Of d)).clash (Of d) (add_row bytes_eq os (Of d)).rows held after result
    adds = by (hit bytes_eq d.out os) refl
      where
        by : (x : Option (Hit (List ℕ)))
            → hit bytes_eq d.out os ≡ x
            → ComesTo (added_at bytes_eq os (Of d) x).clash (Of d) (added_at bytes_eq os (Of d) x).rows
            held after result
        by None e = adds_new e
        by (Some h) e = adds_by h e (same_origin bytes_eq h.found (Of d)) refl

  -- A ROOT

  module _ (key : List ℕ) (after : List LadderRow) (result : Result Row LadderFault) (a : Roots before after key result) where
    root_by : (h : Hit (List ℕ)) → hit bytes_eq key os ≡ Some h → (f : RowOrigin (List ℕ)) → h.found ≡ f →
        RootComesTo (root_place h.place f) (stands_or_not (same_origin bytes_eq f (OfRoot key)) os h.place (OfRoot key)).clash (OfRoot key)
        (stands_or_not (same_origin bytes_eq f (OfRoot key)) os h.place (OfRoot key)).rows held after result
    root_by h e (OfRoot other) is =
        let found = found_before key h e in
        a.repeated h.place (hit_before key (Some h) e) (found.0 ∙ ap (λ f. Some (origin_in (numbered os) f)) is)
    root_by h e (Of d) is =
        let found = found_before key h e in
        let at : origin_at before h.place ≡ Some (origin_in (numbered os) (Of d)) = found.0 ∙ ap (λ f. Some (origin_in (numbered os) f)) is in
        let other : origin_at before h.place ≢ Some Origin.Root = λ root. from_or_root (sym root ∙ at) in
        ((Origin.Root, a.coincidence h.place (record { stands = hit_before key (Some h) e; other = other })), refl)
      where
        from_or_root : Some Origin.Root ≡ Some (origin_in (numbered os) (Of d)) → ⊥
        from_or_root same = cc

    -- a root is taken as the machine takes it
    pub roots : RootComesTo (root_row bytes_eq key os) (add_row bytes_eq os (OfRoot key)).clash (OfRoot key)
        (add_row bytes_eq os (OfRoot key)).rows held after result
    roots = by (hit bytes_eq key os) refl
      where
        by : (x : Option (Hit (List ℕ))) → hit bytes_eq key os ≡ x →
            RootComesTo (root_if x) (added_at bytes_eq os (OfRoot key) x).clash (OfRoot key) (added_at bytes_eq os (OfRoot key) x).rows held after result
        by None e =
            let done = a.new (hit_before key None e) in
            ((row (length before), done.0), keeps_more os (OfRoot key) held before after k tt done.1)
        by (Some h) e = root_by h e h.found refl

  -- A HOLDER

  -- whoever holds a key of a row is noted there as the world notes it
  pub holds_one : (h : Holding (List ℕ)) (n : ℕ) (after : List LadderRow)
      → row_of before h.key ≡ Some n
      → after ≡ holding (holder_of h.holder) n before
      → Keeps os (held ++ h ∷ []) after
  holds_one h n after stands put = record {
    are =
        put ∙ ap (λ o. holding (holder_of h.holder) (unwrap_or o 0) before) (sym stands)
        ∙ ap (λ rs. noted rs h) k.are ∙ sym (all_noted_append (numbered os) held (h ∷ []));
    placed = k.placed;
    stand = all_append (λ i. HasRow (numbered os) i.key) held (h ∷ []) k.stand (subst IsSome (sym stands ∙ row_before h.key) refl, tt);
  }
