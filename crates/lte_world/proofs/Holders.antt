-- Holders that are noted one after the other; each key of a history has a row.
use Rattle.std.proofs.Common.{◌≡◌, refl, sym, ap, subst, ◌∙◌, ℕ, zero, suc, ◌+◌, ◌<◌, ◌≤◌, Bool, true, false, List, [], ◌∷◌, ◌++◌, length, map, take, drop, Option, Some, None, inl, inr, arith, add-one, append_assoc, append-nil}
use Rattle.std.specs.Prelude.{◌||◌, IsSome, option_map, slice_index_or}
use Rattle.std.proofs.{lemmas.Option.none-some, lemmas.Bool.false≢true, lemmas.Slice.Eq.bytes_eq-Decides}
use Rattle.std.specs.{List.list_any, List.AllByRecursion as AllOf, Str.bytes_eq}
use Rattle.annex_a_keys.specs.declared.derived.Derived.{Derived}
use Rattle.hmac_kdf.specs.declared.input.KdfInput.{KdfInput}
use Rattle.key_terms.specs.{declared.row.Holder.Holder, declared.row.LadderRow.LadderRow, Ladder.holding, Ladder.row_of}
use Rattle.key_terms.proofs.Holding.{plain_holding, row_of_same}
use Rattle.lte_machine.specs.Ladder.{RowOrigin, row_key, Clash, Ladder, Hit, hit, same_origin, stands_or_not, added_at, added_unless, add_row, add_next, add_rows, no_rows, ladder_of}
use Rattle.lte_machine.specs.World as world
use Rattle.store_laws.specs.{Additions.IsMadeIn, Joins.HasRow, Joins.Keeps, Rows.numbered}
use Rattle.lte_machine.proofs.KnownLists.{all_more}
use Rattle.store_laws.proofs.{Joining.holds_one, Adding.row_stands, Adding.Stands}
use Rattle.store_laws.proofs.Numbered.{row_kept, hit_row, numbered_more, octets_numbered}
use Rattle.lte_world.specs.Networks.{HoldsOne, HoldsAll, holdings}
use Rattle.lte_world.proofs.Deriving.{left_at, clash_stays}

-- ONE

-- who holds a key of a row is noted there
pub held_one : (who : Holder) (key : List ℕ) (before after : List LadderRow) (n : ℕ)
    → row_of before key ≡ Some n
    → after ≡ holding who n before
    → HoldsOne who key before after
held_one who key before after n stands put os held h k is =
    holds_one os held before k (record { holder = h; key = key }) n after stands (put ∙ ap (λ w. holding w n before) is)

-- EACH KEY OF A HISTORY HAS A ROW

pub row_of_row : (rows : List (RowOrigin (List ℕ))) (o : RowOrigin (List ℕ))
    → (add_row bytes_eq rows o).clash ≡ None
    → HasRow (numbered (add_row bytes_eq rows o).rows) (row_key o)
row_of_row rows o calm = by (hit bytes_eq (row_key o) rows) refl calm
  where
    by : (x : Option (Hit (List ℕ)))
        → hit bytes_eq (row_key o) rows ≡ x
        → (added_at bytes_eq rows o x).clash ≡ None
        → HasRow (numbered (added_at bytes_eq rows o x).rows) (row_key o)
    by None e c = row_stands (numbered (rows ++ o ∷ [])) (row_key o) (subst (Stands (row_key o)) (sym (octets_numbered (rows ++ o ∷ []))) (last rows))
      where
        last : (rows : List (RowOrigin (List ℕ))) → Stands (row_key o) (map row_key (rows ++ o ∷ []))
        last [] = inl refl
        last (r ∷ rows) = inr (last rows)
    by (Some h) e c = stands (same_origin bytes_eq h.found o)
      where
        stands : (b : Bool) → HasRow (numbered (stands_or_not b rows h.place o).rows) (row_key o)
        stands true = subst IsSome (ap (option_map (λ x. x.place)) (sym e) ∙ hit_row (row_key o) rows) refl
        stands false = subst IsSome (ap (option_map (λ x. x.place)) (sym e) ∙ hit_row (row_key o) rows) refl

row_later : (rows : List (RowOrigin (List ℕ))) (o : RowOrigin (List ℕ)) (key : List ℕ)
    → HasRow (numbered rows) key
    → HasRow (numbered (add_row bytes_eq rows o).rows) key
row_later rows o key h = by (hit bytes_eq (row_key o) rows)
  where
    by : (x : Option (Hit (List ℕ))) → HasRow (numbered (added_at bytes_eq rows o x).rows) key
    by None = subst IsSome (sym (ap (λ rs. row_of rs key) (numbered_more rows o) ∙ row_kept (numbered rows) _ key h)) h
    by (Some x) = stands (same_origin bytes_eq x.found o)
      where
        stands : (b : Bool) → HasRow (numbered (stands_or_not b rows x.place o).rows) key
        stands true = h
        stands false = h

-- of a ladder that goes on without a clash
rows_later : (os : List (RowOrigin (List ℕ))) (l : Ladder (List ℕ)) (key : List ℕ)
    → l.clash ≡ None
    → (add_rows bytes_eq l os).clash ≡ None
    → HasRow (numbered l.rows) key
    → HasRow (numbered (add_rows bytes_eq l os).rows) key
rows_later [] l key c calm h = h
rows_later (o ∷ os) l key c calm h = by (add_row bytes_eq l.rows o).clash refl (rows_later os (add_next bytes_eq l o) key)
  where
    is : add_next bytes_eq l o ≡ add_row bytes_eq l.rows o
    is = ap (λ x. added_unless x bytes_eq l.rows o) c

    by : (x : Option (Clash (List ℕ))) → (add_row bytes_eq l.rows o).clash ≡ x →
        ((add_next bytes_eq l o).clash ≡ None → (add_rows bytes_eq l (o ∷ os)).clash ≡ None →
        HasRow (numbered (add_next bytes_eq l o).rows) key →
        HasRow (numbered (add_rows bytes_eq l (o ∷ os)).rows) key) →
        HasRow (numbered (add_rows bytes_eq l (o ∷ os)).rows) key
    by None e onward = onward (ap (λ y. y.clash) is ∙ e) calm (subst (λ y. HasRow (numbered y.rows) key) (sym is) (row_later l.rows o key h))
    by (Some x) e onward =
        let next : add_next bytes_eq l o ≡ record { rows = (add_row bytes_eq l.rows o).rows; clash = Some x } =
        is ∙ (λ j. record { rows = (add_row bytes_eq l.rows o).rows; clash = e j }) in
        let over : (add_rows bytes_eq l (o ∷ os)).clash ≡ Some x = ap (λ y. (add_rows bytes_eq y os).clash) next
        ∙ ap (λ y. y.clash) (clash_stays (add_row bytes_eq l.rows o).rows x os) in
        absurd (none-some x (sym calm ∙ over))

made_from : (os : List (RowOrigin (List ℕ))) (l : Ladder (List ℕ)) (key : List ℕ)
    → l.clash ≡ None
    → (add_rows bytes_eq l os).clash ≡ None
    → IsMadeIn os key
    → HasRow (numbered (add_rows bytes_eq l os).rows) key
made_from [] l key c calm made = absurd (false≢true made)
made_from (o ∷ os) l key c calm made = by (add_row bytes_eq l.rows o).clash refl (made_from os (add_next bytes_eq l o) key)
  where
    is : add_next bytes_eq l o ≡ add_row bytes_eq l.rows o
    is = ap (λ x. added_unless x bytes_eq l.rows o) c

    by : (x : Option (Clash (List ℕ))) → (add_row bytes_eq l.rows o).clash ≡ x →
        ((add_next bytes_eq l o).clash ≡ None → (add_rows bytes_eq l (o ∷ os)).clash ≡ None → IsMadeIn os key →
        HasRow (numbered (add_rows bytes_eq l (o ∷ os)).rows) key) →
        HasRow (numbered (add_rows bytes_eq l (o ∷ os)).rows) key
    by None e onward = at (bytes_eq (row_key o) key) refl made (onward (ap (λ y. y.clash) is ∙ e) calm)
      where
        at : (b : Bool) → bytes_eq (row_key o) key ≡ b → (b || list_any (λ x. bytes_eq (row_key x) key) os) ≡ true →
            (IsMadeIn os key → HasRow (numbered (add_rows bytes_eq l (o ∷ os)).rows) key) → HasRow (numbered (add_rows bytes_eq l (o ∷ os)).rows) key
        at true same m later =
            let own : row_key o ≡ key = (bytes_eq-Decides (row_key o) key).0 same in
            let here : HasRow (numbered (add_next bytes_eq l o).rows) key = subst (λ y. HasRow (numbered y.rows) key)
            (sym is) (subst (HasRow (numbered (add_row bytes_eq l.rows o).rows)) own (row_of_row l.rows o e)) in
            rows_later os (add_next bytes_eq l o) key (ap (λ y. y.clash) is ∙ e) calm here
        at false same m later = later m
    by (Some x) e onward =
        let next : add_next bytes_eq l o ≡ record { rows = (add_row bytes_eq l.rows o).rows; clash = Some x } =
        is ∙ (λ j. record { rows = (add_row bytes_eq l.rows o).rows; clash = e j }) in
        let over : (add_rows bytes_eq l (o ∷ os)).clash ≡ Some x = ap (λ y. (add_rows bytes_eq y os).clash) next
        ∙ ap (λ y. y.clash) (clash_stays (add_row bytes_eq l.rows o).rows x os) in
        absurd (none-some x (sym calm ∙ over))

pub made_has_row : (history : List (RowOrigin (List ℕ))) (key : List ℕ)
    → (ladder_of bytes_eq history).clash ≡ None
    → IsMadeIn history key
    → HasRow (numbered (ladder_of bytes_eq history).rows) key
made_has_row history key calm made = made_from history no_rows key refl calm made

-- ONE AFTER THE OTHER

holdings_more : (h : world.Holder) (keys : List (List ℕ)) (key : List ℕ)
    → holdings h (keys ++ key ∷ []) ≡ holdings h keys ++ record { holder = h; key = key } ∷ []
holdings_more h [] key = refl
holdings_more h (k ∷ keys) key = ap (λ l. record { holder = h; key = k } ∷ l) (holdings_more h keys key)

pub holds_none : (who : Holder) (rows : List LadderRow) → HoldsAll who [] rows rows
holds_none who rows os held h k is = subst (λ l. Keeps os l rows) (sym (append-nil held)) k

pub holds_more : (who : Holder) (keys : List (List ℕ)) (key : List ℕ) (before mid after : List LadderRow)
    → HoldsAll who keys before mid
    → HoldsOne who key mid after
    → HoldsAll who (keys ++ key ∷ []) before after
holds_more who keys key before mid after all one os held h k is =
    subst (λ l. Keeps os l after)
    (append_assoc held (holdings h keys) (record { holder = h; key = key } ∷ [])
    ∙ ap (λ l. held ++ l) (sym (holdings_more h keys key)))
    (one os (held ++ holdings h keys) h (all os held h k is) is)

-- of derivations
pub nothing_derived : Derived
nothing_derived = record { key = []; input = KdfInput.Kenb 0; out = [] }

take_more : {A : Type 0} (f : A → List ℕ) (xs : List A) (k : ℕ) (d : A)
    → k < length xs
    → map f (take (suc k) xs) ≡ map f (take k xs) ++ f (slice_index_or xs k d) ∷ []
take_more f [] k d lt = absurd (omega (arith, lt))
take_more f (x ∷ xs) zero d lt = refl
take_more f (x ∷ xs) (suc k) d lt = ap (λ l. f x ∷ l) (take_more f xs k d (omega (arith, lt)))

rows_drop : {A : Type 0} (P : A → Type 0) (xs : List A) (k : ℕ) (d : A)
    → k < length xs
    → AllOf P (drop k xs)
    → P (slice_index_or xs k d) × AllOf P (drop (suc k) xs)
rows_drop P xs k d lt h = subst (AllOf P) (left_at xs k d lt) h

module _ (who : Holder) (before rows : List LadderRow) (derived : List Derived) (k : ℕ) (d : Derived) (lt : k < length derived) where
  pub key_here : AllOf (λ x. HasRow rows x.out) (drop k derived) → HasRow rows (slice_index_or derived k d).out
  key_here h = (rows_drop (λ x. HasRow rows x.out) derived k d lt h).0

  pub held_here : (after : List LadderRow) → HoldsAll who (map (λ x. x.out) (take k derived)) before rows →
      HoldsOne who (slice_index_or derived k d).out rows after →
      HoldsAll who (map (λ x. x.out) (take (k + 1) derived)) before after
  held_here after all one =
      subst (λ keys. HoldsAll who keys before after) (sym (ap (λ n. map (λ x. x.out) (take n derived)) (add-one k) ∙ take_more (λ x. x.out) derived k d lt))
      (holds_more who (map (λ x. x.out) (take k derived)) (slice_index_or derived k d).out before rows after all one)

  pub keys_here : (after : List LadderRow)
      → ((key : List ℕ) → HasRow rows key → HasRow after key)
      → AllOf (λ x. HasRow rows x.out) (drop k derived)
      → AllOf (λ x. HasRow after x.out) (drop (k + 1) derived)
  keys_here after f h =
      subst (λ n. AllOf (λ x. HasRow after x.out) (drop n derived)) (sym (add-one k))
      (all_more (λ x. HasRow rows x.out) (λ x. HasRow after x.out) (λ x r. f x.out r) (drop (suc k) derived)
      (rows_drop (λ x. HasRow rows x.out) derived k d lt h).1)

pub held_all : (who : Holder) (before rows : List LadderRow) (derived : List Derived) (k : ℕ)
    → length derived ≤ k
    → HoldsAll who (map (λ x. x.out) (take k derived)) before rows
    → HoldsAll who (map (λ x. x.out) derived) before rows
held_all who before rows derived k le h = subst (λ l. HoldsAll who (map (λ x. x.out) l) before rows) (take_all derived k le) h
  where
    take_all : {A : Type 0} (xs : List A) (k : ℕ) → length xs ≤ k → take k xs ≡ xs
    take_all [] zero le = refl
    take_all [] (suc k) le = refl
    take_all (x ∷ xs) zero le = absurd (omega (arith, le))
    take_all (x ∷ xs) (suc k) le = ap (λ l. x ∷ l) (take_all xs k (omega (arith, le)))

pub row_held : (who : Holder) (before after : List LadderRow) (n : ℕ) → after ≡ holding who n before → (key : List ℕ) → HasRow before key → HasRow after key
row_held who before after n put key h =
    subst IsSome
    (sym (ap (λ rs. row_of rs key) put ∙ row_of_same before (holding who n before) (plain_holding who n before) key)) h
