-- Who holds the key of a row: the stations that are noted in it.
use Rattle.std.proofs.Common.{◌≡◌, ℕ, ◌<◌, zero, suc, Bool, true, false, ◌⊎◌, inl, inr, Some, List, [], ◌∷◌, ◌++◌, length, replicate, set, sym, refl, ap, subst, ◌∙◌, arith}
use Rattle.std.proofs.{lemmas.Bool.false≢true, lemmas.List.length-set}
use Rattle.std.specs.Prelude.{◌↔◌, IsTrue, IsSome, slice_index_or, unwrap_or}
use Rattle.std.specs.List.{AllByRecursion as AllOf}
use Rattle.key_audit.specs.Derives.{held_by, holds}
use Rattle.key_terms.specs.declared.row.LadderRow.{LadderRow}
use Rattle.key_terms.specs.Ladder.{unheld, holding, row_of}
use Rattle.key_terms.specs.Ladder as ladder
use Rattle.lte_machine.specs.Ladder.{RowOrigin, row_key}
use Rattle.lte_machine.specs.World.{Holder, AtPhone, AtCore, AtStation, Holding}
use Rattle.store_laws.specs.Joins.{HasRow}
use Rattle.store_laws.specs.Rows.{origin_in, numbered_after, noted, all_noted, holder_of}
use Rattle.store_laws.proofs.Numbered.{number_of, row_noted}

-- ROWS THAT NOBODY HOLDS

-- a row has a flag for each of eight stations
abbrev pub HasFlags : LadderRow → Type 0
HasFlags r = length r.stations ≡ 8

-- and no station holds it
abbrev pub IsFree : LadderRow → Type 0
IsFree r = HasFlags r × ((s : ℕ) → held_by s r ≡ false)

no_flag : (n s : ℕ) → slice_index_or (replicate n false) s false ≡ false
no_flag zero s = refl
no_flag (suc n) zero = refl
no_flag (suc n) (suc s) = no_flag n s

free_more : (rows : List LadderRow) (r : LadderRow) → AllOf IsFree rows → IsFree r → AllOf IsFree (rows ++ r ∷ [])
free_more [] r all one = (one, tt)
free_more (x ∷ rows) r all one = (all.0, free_more rows r all.1 one)

pub all_free : (rows : List LadderRow) (os : List (RowOrigin (List ℕ))) → AllOf IsFree rows → AllOf IsFree (numbered_after rows os)
all_free rows [] all = all
all_free rows (o ∷ os) all =
    all_free (rows ++ unheld (origin_in rows o) (row_key o) ∷ []) os
    (free_more rows (unheld (origin_in rows o) (row_key o)) all (refl, λ s. no_flag 8 s))

pub free_flags : (rows : List LadderRow) → AllOf IsFree rows → AllOf HasFlags rows
free_flags [] all = tt
free_flags (r ∷ rows) all = (all.0.0, free_flags rows all.1)

pub free_held : (rows : List LadderRow) (s k : ℕ) → AllOf IsFree rows → IsTrue (holds rows s k) → ⊥
free_held [] s k all held = false≢true held
free_held (r ∷ rows) s zero all held = false≢true (sym (all.0.1 s) ∙ held)
free_held (r ∷ rows) s (suc k) all held = free_held rows s k all.1 held

-- ONE HOLDER MORE

-- the same at the next place
later_place : {A B : Type 0} (i s : ℕ) → A ↔ (B ⊎ (i ≡ s)) → A ↔ (B ⊎ (suc i ≡ suc s))
later_place {A} {B} i s both = (there, back)
  where
    there : A → B ⊎ (suc i ≡ suc s)
    there h = elim (both.0 h) [ inl l ↦ inl l | inr e ↦ inr (ap suc e) ]

    back : B ⊎ (suc i ≡ suc s) → A
    back (inl l) = both.1 (inl l)
    back (inr e) = both.1 (inr (omega (arith, e)))

flag_set : (flags : List Bool) (i s : ℕ)
    → s < length flags
    → IsTrue (slice_index_or (set flags i true) s false) ↔ (IsTrue (slice_index_or flags s false) ⊎ (i ≡ s))
flag_set [] i s within = absurd (omega (arith, within))
flag_set (x ∷ flags) zero zero within = (λ h. inr refl, λ h. refl)
flag_set (x ∷ flags) zero (suc s) within = (λ h. inl h, back)
  where
    back : IsTrue (slice_index_or flags s false) ⊎ (0 ≡ suc s) → IsTrue (slice_index_or flags s false)
    back (inl h) = h
    back (inr e) = absurd (omega (arith, e))
flag_set (x ∷ flags) (suc i) zero within = (λ h. inl h, back)
  where
    back : IsTrue x ⊎ (suc i ≡ 0) → IsTrue x
    back (inl h) = h
    back (inr e) = absurd (omega (arith, e))
flag_set (x ∷ flags) (suc i) (suc s) within = later_place i s (flag_set flags i s (omega (arith, within)))

-- of one row
row_held : (who : Holder) (r : LadderRow) (s : ℕ)
    → HasFlags r
    → s < 8
    → IsTrue (held_by s (ladder.held_by (holder_of who) r)) ↔ (IsTrue (held_by s r) ⊎ (who ≡ AtStation s))
row_held AtPhone r s flags few = (λ h. inl h, back)
  where
    back : IsTrue (held_by s r) ⊎ (AtPhone ≡ AtStation s) → IsTrue (held_by s r)
    back (inl h) = h
    back (inr e) = cc
row_held AtCore r s flags few = (λ h. inl h, back)
  where
    back : IsTrue (held_by s r) ⊎ (AtCore ≡ AtStation s) → IsTrue (held_by s r)
    back (inl h) = h
    back (inr e) = cc
row_held (AtStation id) r s flags few = (there, back)
  where
    one : IsTrue (slice_index_or (set r.stations id true) s false) ↔ (IsTrue (slice_index_or r.stations s false) ⊎ (id ≡ s))
    one = flag_set r.stations id s (omega (arith, few, flags))

    there : IsTrue (slice_index_or (set r.stations id true) s false) → IsTrue (held_by s r) ⊎ (AtStation id ≡ AtStation s)
    there h = elim (one.0 h) [ inl l ↦ inl l | inr e ↦ inr (ap AtStation e) ]

    back : IsTrue (held_by s r) ⊎ (AtStation id ≡ AtStation s) → IsTrue (slice_index_or (set r.stations id true) s false)
    back (inl l) = one.1 (inl l)
    back (inr e) = let same : id ≡ s = cc in one.1 (inr same)

flags_kept : (who : Holder) (r : LadderRow) → HasFlags r → HasFlags (ladder.held_by (holder_of who) r)
flags_kept AtPhone r flags = flags
flags_kept AtCore r flags = flags
flags_kept (AtStation id) r flags = length-set r.stations id true ∙ flags

flags_held : (who : Holder) (n : ℕ) (rows : List LadderRow) → AllOf HasFlags rows → AllOf HasFlags (holding (holder_of who) n rows)
flags_held who n [] all = tt
flags_held who zero (r ∷ rows) all = (flags_kept who r all.0, all.1)
flags_held who (suc n) (r ∷ rows) all = (all.0, flags_held who n rows all.1)

-- of row n
later_row : {A B C : Type 0} (n k : ℕ) → A ↔ (B ⊎ (C × (n ≡ k))) → A ↔ (B ⊎ (C × (suc n ≡ suc k)))
later_row {A} {B} {C} n k both = (there, back)
  where
    there : A → B ⊎ (C × (suc n ≡ suc k))
    there h = elim (both.0 h) [ inl l ↦ inl l | inr e ↦ inr (e.0, ap suc e.1) ]

    back : B ⊎ (C × (suc n ≡ suc k)) → A
    back (inl l) = both.1 (inl l)
    back (inr e) = let same = e.1 in both.1 (inr (e.0, omega (arith, same)))

one_held : (who : Holder) (n : ℕ) (rows : List LadderRow) (s k : ℕ) → AllOf HasFlags rows → s < 8 → n < length rows
    → IsTrue (holds (holding (holder_of who) n rows) s k) ↔ (IsTrue (holds rows s k) ⊎ ((who ≡ AtStation s) × (n ≡ k)))
one_held who n [] s k all few within = absurd (omega (arith, within))
one_held who zero (r ∷ rows) s zero all few within = (there, back)
  where
    one : IsTrue (held_by s (ladder.held_by (holder_of who) r)) ↔ (IsTrue (held_by s r) ⊎ (who ≡ AtStation s))
    one = row_held who r s all.0 few

    there : IsTrue (held_by s (ladder.held_by (holder_of who) r)) → IsTrue (held_by s r) ⊎ ((who ≡ AtStation s) × ◌≡◌ {A = ℕ} 0 0)
    there h = elim (one.0 h) [ inl l ↦ inl l | inr e ↦ inr (e, refl) ]

    back : IsTrue (held_by s r) ⊎ ((who ≡ AtStation s) × ◌≡◌ {A = ℕ} 0 0) → IsTrue (held_by s (ladder.held_by (holder_of who) r))
    back (inl l) = one.1 (inl l)
    back (inr e) = one.1 (inr e.0)
one_held who zero (r ∷ rows) s (suc k) all few within = (λ h. inl h, back)
  where
    back : IsTrue (holds rows s k) ⊎ ((who ≡ AtStation s) × (0 ≡ suc k)) → IsTrue (holds rows s k)
    back (inl h) = h
    back (inr e) = let no = e.1 in absurd (omega (arith, no))
one_held who (suc n) (r ∷ rows) s zero all few within = (λ h. inl h, back)
  where
    back : IsTrue (held_by s r) ⊎ ((who ≡ AtStation s) × (suc n ≡ 0)) → IsTrue (held_by s r)
    back (inl h) = h
    back (inr e) = let no = e.1 in absurd (omega (arith, no))
one_held who (suc n) (r ∷ rows) s (suc k) all few within = later_row n k (one_held who n rows s k all.1 few (omega (arith, within)))

-- ALL HOLDERS

-- a station is one of them, with a key of row k
abbrev pub IsNoted : ℕ → ℕ → List LadderRow → List (Holding (List ℕ)) → Type 0
IsNoted s k rows [] = ⊥
IsNoted s k rows (h ∷ held) = ((h.holder ≡ AtStation s) × (row_of rows h.key ≡ Some k)) ⊎ IsNoted s k rows held

-- rows in which the same keys stand
same_noted : (s k : ℕ) (rows after : List LadderRow)
    → ((key : List ℕ) → row_of after key ≡ row_of rows key)
    → (held : List (Holding (List ℕ)))
    → IsNoted s k after held
    → IsNoted s k rows held
same_noted s k rows after same [] n = n
same_noted s k rows after same (h ∷ held) (inl e) = inl (e.0, sym (same h.key) ∙ e.1)
same_noted s k rows after same (h ∷ held) (inr n) = inr (same_noted s k rows after same held n)

same_rows : (rows after : List LadderRow)
    → ((key : List ℕ) → row_of after key ≡ row_of rows key)
    → (held : List (Holding (List ℕ)))
    → AllOf (λ h. HasRow rows h.key) held
    → AllOf (λ h. HasRow after h.key) held
same_rows rows after same [] all = tt
same_rows rows after same (h ∷ held) all = (subst IsSome (sym (same h.key)) all.0, same_rows rows after same held all.1)

first_noted : (h : Holding (List ℕ)) (rows : List LadderRow) (s k : ℕ) → AllOf HasFlags rows → s < 8 → HasRow rows h.key
    → IsTrue (holds (noted rows h) s k) ↔ (IsTrue (holds rows s k) ⊎ ((h.holder ≡ AtStation s) × (row_of rows h.key ≡ Some k)))
first_noted h rows s k all few stands = (there, back)
  where
    n : (k : ℕ) × (row_of rows h.key ≡ Some k) × (k < length rows)
    n = number_of rows h.key stands

    is : noted rows h ≡ holding (holder_of h.holder) n.0 rows
    is = ap (λ o. holding (holder_of h.holder) (unwrap_or o 0) rows) n.1

    one : IsTrue (holds (holding (holder_of h.holder) n.0 rows) s k) ↔ (IsTrue (holds rows s k) ⊎ ((h.holder ≡ AtStation s) × (n.0 ≡ k)))
    one = one_held h.holder n.0 rows s k all few n.2

    there : IsTrue (holds (noted rows h) s k) → IsTrue (holds rows s k) ⊎ ((h.holder ≡ AtStation s) × (row_of rows h.key ≡ Some k))
    there g = elim (one.0 (subst (λ rs. IsTrue (holds rs s k)) is g)) [ inl l ↦ inl l | inr e ↦ inr (e.0, n.1 ∙ ap Some e.1) ]

    back : IsTrue (holds rows s k) ⊎ ((h.holder ≡ AtStation s) × (row_of rows h.key ≡ Some k)) → IsTrue (holds (noted rows h) s k)
    back (inl l) = subst (λ rs. IsTrue (holds rs s k)) (sym is) (one.1 (inl l))
    back (inr e) =
        let both : Some n.0 ≡ Some k = sym n.1 ∙ e.1 in
        let same : n.0 ≡ k = cc in
        subst (λ rs. IsTrue (holds rs s k)) (sym is) (one.1 (inr (e.0, same)))

-- the first holder, and the others
joined : {G N R E M L : Type 0} → G ↔ (N ⊎ L) → N ↔ (R ⊎ E) → (L → M) → (M → L) → G ↔ (R ⊎ (E ⊎ M))
joined {G} {N} {R} {E} {M} {L} later first there here = (up, down)
  where
    up : G → R ⊎ (E ⊎ M)
    up g = elim (later.0 g) [
      | inl n ↦ elim (first.0 n) [ inl r ↦ inl r | inr e ↦ inr (inl e) ]
      | inr l ↦ inr (inr (there l))
    ]

    down : R ⊎ (E ⊎ M) → G
    down (inl r) = later.1 (inl (first.1 (inl r)))
    down (inr (inl e)) = later.1 (inl (first.1 (inr e)))
    down (inr (inr m)) = later.1 (inr (here m))

pub held_where : (held : List (Holding (List ℕ))) (rows : List LadderRow) (s k : ℕ) → AllOf HasFlags rows → s < 8 → AllOf (λ h. HasRow rows h.key) held
    → IsTrue (holds (all_noted rows held) s k) ↔ (IsTrue (holds rows s k) ⊎ IsNoted s k rows held)
held_where [] rows s k all few stand = (λ h. inl h, back)
  where
    back : IsTrue (holds rows s k) ⊎ ⊥ → IsTrue (holds rows s k)
    back (inl h) = h
    back (inr n) = absurd n
held_where (h ∷ held) rows s k all few stand =
    joined (held_where held (noted rows h) s k flags few (same_rows rows (noted rows h) same held stand.1)) (first_noted h rows s k all few stand.0)
    (same_noted s k rows (noted rows h) same held) (same_noted s k (noted rows h) rows (λ key. sym (same key)) held)
  where
    same : (key : List ℕ) → row_of (noted rows h) key ≡ row_of rows key
    same key = row_noted rows (h ∷ []) key

    n : (k : ℕ) × (row_of rows h.key ≡ Some k) × (k < length rows)
    n = number_of rows h.key stand.0

    flags : AllOf HasFlags (noted rows h)
    flags = subst (AllOf HasFlags) (sym (ap (λ o. holding (holder_of h.holder) (unwrap_or o 0) rows) n.1)) (flags_held h.holder n.0 rows all)
