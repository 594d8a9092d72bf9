-- Marks are right where each fits those of the rows before, and an audit is exact where they are its marks, and only there.
use Rattle.std.proofs.Common.{◌≡◌, ℕ, zero, suc, ◌<◌, ◌⊎◌, inl, inr, Option, Some, None, List, [], length, get_or, refl, sym, ap, subst, ◌∙◌, arith, Bool, true, false}
use Rattle.std.proofs.lemmas.Bool.{false≢true, cases_Bool}
use Rattle.std.proofs.lemmas.Option.{slice_get-get_or, slice_get_within, none-some}
use Rattle.std.specs.{Prelude.◌↔◌, Prelude.IsTrue, List.slice_get}
use Rattle.key_terms.specs.{declared.row.LadderRow.LadderRow, Ladder.unheld, Ladder.IsLadder}
use Rattle.key_terms.specs.declared.row.Origin.TheVariants as origins
use Rattle.key_audit.specs.declared.audits.AuditRow.{AuditRow}
use Rattle.key_audit.specs.Derives.{held_by, held_in, CanDerive, key_in, IsNearest, by_itself, by_key}
use Rattle.key_audit.specs.Exact.{can_at, from_at, Exact}
use Rattle.key_audit.specs.Local.{above_mark, held_first, local_mark, mark_in, mark_within, exact_mark, mark_if, mark_at, FitBelow}
use Rattle.key_audit.proofs.{OneStep.Above, OneStep.one_step, Fitting.Fits}
use Rattle.key_audit.proofs.Neighbours.{above_carried, above_same, Marked, marked, mark_there, above_marked, marked_above, nearest_one, key_before}

-- a row that stands
row_at : (rows : List LadderRow) (k : ℕ) → k < length rows → (r : LadderRow) × (slice_get rows k ≡ Some r)
row_at rows k below = (get_or rows k (unheld origins.Root []), slice_get-get_or rows k _ below)

-- how a mark comes: the row is held, or it comes from above
held_or : (k x : ℕ) (up : Option ℕ) (held : Bool) → held_first held k up ≡ Some x → (IsTrue held × (k ≡ x)) ⊎ ((held ≡ false) × (up ≡ Some x))
held_or k x up true is = inl (refl, cc)
held_or k x up false is = inr (refl, is)

-- MARKS

-- each fits those of the rows before
abbrev pub MarksFit : List LadderRow → (ℕ → Option ℕ) → ℕ → Type 0
MarksFit rows mark s = (k : ℕ) (r : LadderRow) → slice_get rows k ≡ Some r → mark k ≡ local_mark rows mark s k r

-- what is so of a row exactly where the station holds it, or where it is so of the rows that it was derived from
abbrev pub ByRows : List LadderRow → ℕ → (ℕ → Type 0) → Type 0
ByRows rows s P = (k : ℕ) (r : LadderRow) → slice_get rows k ≡ Some r → P k ↔ (IsTrue (held_by s r) ⊎ Above rows P k r.origin)

-- one row, where those before it are right
right_one : (rows : List LadderRow)
    → IsLadder rows
    → (mark : ℕ → Option ℕ) (s : ℕ) (P : ℕ → Type 0)
    → ByRows rows s P
    → (k : ℕ) (r : LadderRow)
    → slice_get rows k ≡ Some r
    → ((j : ℕ) → j < k → Marked mark j ↔ P j)
    → mark k ≡ local_mark rows mark s k r → Marked mark k ↔ P k
right_one rows ladder mark s P step k r at before local = (can, derive)
  where
    can : Marked mark k → P k
    can some =
        let there = mark_there (mark k) some in
        elim (held_or k there.0 (above_mark rows mark k r.origin) (held_by s r) (sym local ∙ there.1)) [
          | inl held ↦ (step k r at).1 (inl held.0)
          | inr up ↦
              (step k r at).1 (inr (above_carried rows (Marked mark) P k r.octets r.origin (ladder.made k r at)
              (λ j less. (before j less).0) (above_marked rows mark k there.0 r.origin up.1).0))
        ]

    itself : held_by s r ≡ true → Marked mark k
    itself held = marked k (local ∙ ap (λ b. held_first b k (above_mark rows mark k r.origin)) held)

    by_above : Above rows P k r.origin → (held_by s r ≡ true) ⊎ (held_by s r ≡ false) → Marked mark k
    by_above up (inl held) = itself held
    by_above up (inr free) =
        let found = marked_above rows mark k r.origin
        (above_carried rows P (Marked mark) k r.octets r.origin (ladder.made k r at)
        (λ j less. (before j less).1) up) in
        let there = mark_there (mark found.0) found.2 in
        marked there.0 (local ∙ ap (λ b. held_first b k (above_mark rows mark k r.origin)) free ∙ found.3 ∙ there.1)

    derive : P k → Marked mark k
    derive d = elim ((step k r at).0 d) [ inl held ↦ itself held | inr up ↦ by_above up (cases_Bool (held_by s r)) ]

right_below : (rows : List LadderRow)
    → IsLadder rows
    → (mark : ℕ → Option ℕ) (s : ℕ) (P : ℕ → Type 0)
    → ByRows rows s P
    → MarksFit rows mark s
    → (n k : ℕ)
    → k < n
    → k < length rows
    → Marked mark k ↔ P k
right_below rows ladder mark s P step fits zero k below within = absurd (omega (arith, below))
right_below rows ladder mark s P step fits (suc n) k below within =
    let row = row_at rows k within in
    right_one rows ladder mark s P step k row.0 row.1
    (λ j less.
    right_below rows ladder mark s P step fits n j (omega (arith, less, below)) (omega (arith, less, within)))
    (fits k row.0 row.1)

-- a row has a mark exactly where that is so of it
pub marks_by_rows : (rows : List LadderRow)
    → IsLadder rows
    → (mark : ℕ → Option ℕ) (s : ℕ) (P : ℕ → Type 0)
    → ByRows rows s P
    → MarksFit rows mark s
    → (k : ℕ)
    → k < length rows
    → Marked mark k ↔ P k
marks_by_rows rows ladder mark s P step fits k within = right_below rows ladder mark s P step fits (suc k) k (omega arith) within

-- so it has one exactly where the station can derive it
pub marks_right : (rows : List LadderRow)
    → IsLadder rows
    → (mark : ℕ → Option ℕ) (s : ℕ)
    → MarksFit rows mark s
    → (k : ℕ)
    → k < length rows
    → Marked mark k ↔ CanDerive rows s k
marks_right rows ladder mark s fits k within = marks_by_rows rows ladder mark s (CanDerive rows s) (one_step rows ladder s) fits k within

nearest_below : (rows : List LadderRow)
    → IsLadder rows
    → (mark : ℕ → Option ℕ) (s : ℕ)
    → MarksFit rows mark s
    → (n k x : ℕ)
    → k < n
    → k < length rows
    → mark k ≡ Some x
    → IsNearest rows s k x
nearest_below rows ladder mark s fits zero k x below within is = absurd (omega (arith, below))
nearest_below rows ladder mark s fits (suc n) k x below within is =
    let row = row_at rows k within in
    let r = row.0 in
    elim (held_or k x (above_mark rows mark k r.origin) (held_by s r) (sym (fits k r row.1) ∙ is)) [
      | inl held ↦ subst (λ f. IsNearest rows s k f) held.1 (by_itself (ap (held_in s) row.1 ∙ held.0))
      | inr up ↦
          let key = (above_marked rows mark k x r.origin up.1).1 in
          let less = key_before rows k key.0 r.octets r.origin (ladder.made k r row.1) key.1 in
          by_key (ap (held_in s) row.1 ∙ up.0) (ap key_in row.1 ∙ key.1)
          (nearest_below rows ladder mark s fits n key.0 x (omega (arith, less, below))
          (omega (arith, less, within)) key.2)
    ]

-- and the mark is the nearest row that the station holds
pub marks_nearest : (rows : List LadderRow)
    → IsLadder rows
    → (mark : ℕ → Option ℕ) (s : ℕ)
    → MarksFit rows mark s
    → (k x : ℕ)
    → k < length rows
    → mark k ≡ Some x
    → IsNearest rows s k x
marks_nearest rows ladder mark s fits k x within is = nearest_below rows ladder mark s fits (suc k) k x (omega arith) within is

-- enough steps are enough
steps_same : (rows : List LadderRow) → IsLadder rows → (s n m k : ℕ) → k < n → k < m → mark_within n rows s k ≡ mark_within m rows s k
steps_same rows ladder s zero m k small large = absurd (omega (arith, small))
steps_same rows ladder s (suc n) zero k small large = absurd (omega (arith, large))
steps_same rows ladder s (suc n) (suc m) k small large =
    same_in rows ladder s k (mark_within n rows s) (mark_within m rows s)
    (λ j less. steps_same rows ladder s n m j (omega (arith, less, small)) (omega (arith, less, large)))
    (slice_get rows k) refl
  where
    same_in : (rows : List LadderRow)
        → IsLadder rows
        → (s k : ℕ) (f g : ℕ → Option ℕ)
        → ((j : ℕ) → j < k → f j ≡ g j)
        → (o : Option LadderRow)
        → slice_get rows k ≡ o
        → mark_in rows f s k o ≡ mark_in rows g s k o
    same_in rows ladder s k f g same None at = refl
    same_in rows ladder s k f g same (Some r) at = ap (held_first (held_by s r) k) (above_same rows k r.octets r.origin (ladder.made k r at) f g same)

-- the marks of the definition fit
pub exact_marks_fit : (rows : List LadderRow) → IsLadder rows → (s : ℕ) → MarksFit rows (exact_mark rows s) s
unfolding exact_mark
exact_marks_fit rows ladder s k r at =
    ap (mark_in rows (mark_within k rows s) s k) at
    ∙ ap (held_first (held_by s r) k) (above_same rows k r.octets r.origin (ladder.made k r at) (mark_within k rows s)
    (exact_mark rows s) (λ j less. steps_same rows ladder s k (suc j) j less (omega arith)))

-- AUDITS

-- a mark of an audit is there exactly where it says that the station can
mark_can : (can : Bool) (from x : ℕ) → mark_if can from ≡ Some x → IsTrue can × (from ≡ x)
mark_can true from x is = (refl, cc)
mark_can false from x is = absurd (none-some x is)

can_mark : (can : Bool) (from : ℕ) → IsTrue can → mark_if can from ≡ Some from
can_mark can from is = ap (λ b. mark_if b from) is

-- the marks of an audit whose rows fit
audit_marks : (rows : List LadderRow) (audit : List AuditRow) → Fits rows audit → (s : ℕ) → s < 8 → MarksFit rows (mark_at audit s) s
audit_marks rows audit fits s few k r at = (fits.each k (slice_get_within rows k r at) s few).mark r at

pub exact_where_fits : (rows : List LadderRow) → IsLadder rows → (audit : List AuditRow) → Fits rows audit → Exact rows audit
exact_where_fits rows ladder audit fits = record {
  as_many = fits.as_many;
  can = λ k s within few. (
    λ can. (marks_right rows ladder (mark_at audit s) s (audit_marks rows audit fits s few) k within).0
        (marked (from_at audit s k) (can_mark (can_at audit s k) (from_at audit s k) can)),
    λ d.
        let there = mark_there (mark_at audit s k) ((marks_right rows ladder (mark_at audit s) s (audit_marks rows audit fits s few) k within).1 d) in
        (mark_can (can_at audit s k) (from_at audit s k) there.0 there.1).0,
  );
  from = λ k s within few can.
      marks_nearest rows ladder (mark_at audit s) s (audit_marks rows audit fits s few) k (from_at audit s k) within
      (can_mark (can_at audit s k) (from_at audit s k) can);
  nothing = λ k s within few. (fits.each k within s few).nothing;
}

-- an exact audit has the marks of the definition
pub exact_marks : (rows : List LadderRow)
    → IsLadder rows
    → (audit : List AuditRow)
    → Exact rows audit
    → (k s : ℕ)
    → k < length rows
    → s < 8
    → mark_at audit s k ≡ exact_mark rows s k
exact_marks rows ladder audit exact k s within few = by (cases_Bool (can_at audit s k)) (exact_mark rows s k) refl
  where
    fits : MarksFit rows (exact_mark rows s) s
    fits = exact_marks_fit rows ladder s

    by : (can_at audit s k ≡ true) ⊎ (can_at audit s k ≡ false) → (o : Option ℕ) → exact_mark rows s k ≡ o → mark_at audit s k ≡ o
    by (inl can) None is =
        let there = mark_there (exact_mark rows s k) ((marks_right rows ladder (exact_mark rows s) s fits k within).1 ((exact.can k s within few).0 can)) in
        absurd (none-some there.0 (sym is ∙ there.1))
    by (inl can) (Some x) is =
        can_mark (can_at audit s k) (from_at audit s k) can
        ∙ ap Some (nearest_one rows s (exact.from k s within few can)
        (marks_nearest rows ladder (exact_mark rows s) s fits k x within is))
    by (inr cannot) None is = ap (λ b. mark_if b (from_at audit s k)) cannot
    by (inr cannot) (Some x) is =
        absurd (false≢true (sym cannot
        ∙ (exact.can k s within few).1 ((marks_right rows ladder (exact_mark rows s) s fits k within).0 (marked x is))))

pub fits_where_exact : (rows : List LadderRow) → IsLadder rows → (audit : List AuditRow) → Exact rows audit → Fits rows audit
fits_where_exact rows ladder audit exact = record {
  as_many = exact.as_many;
  each = λ k within s few. record {
    mark = λ r at.
        exact_marks rows ladder audit exact k s within few ∙ exact_marks_fit rows ladder s k r at
        ∙ ap (held_first (held_by s r) k) (above_same rows k r.octets r.origin (ladder.made k r at) (exact_mark rows s)
        (mark_at audit s)
        (λ j less. sym (exact_marks rows ladder audit exact j s (omega (arith, less, within)) few)));
    nothing = exact.nothing k s within few;
  };
}

-- so a test of all rows by their neighbours tells whether the audit is exact
pub exact_is_local : (rows : List LadderRow)
    → IsLadder rows
    → (audit read : List AuditRow)
    → read ≡ audit
    → length audit ≡ length rows
    → {test : Bool}
    → IsTrue test ↔ FitBelow rows read (length rows)
    → IsTrue test ↔ Exact rows audit
exact_is_local rows ladder audit read same many {test} tests = (
  λ is. exact_where_fits rows ladder audit (record { as_many = many; each = subst (λ a. FitBelow rows a (length rows)) same (tests.0 is) }),
  λ exact. tests.1 (subst (λ a. FitBelow rows a (length rows)) (sym same) (fits_where_exact rows ladder audit exact).each),
)
