-- An audit that is filled from the first row to the last fits: a row depends on those before it alone.
use Rattle.std.proofs.Common.{◌≡◌, ℕ, ◌+◌, ◌<◌, ◌≤◌, inl, inr, Some, List, [], ◌∷◌, ◌++◌, length, get_or, length-append, sym, ap, subst, ◌∙◌, arith}
use Rattle.std.proofs.{lemmas.Option.slice_get-get_or, lemmas.Bool.cases_lt}
use Rattle.std.specs.List.{slice_get}
use Rattle.key_terms.specs.{declared.row.LadderRow.LadderRow, Ladder.unheld, Ladder.IsLadder}
use Rattle.key_terms.specs.declared.row.Origin.TheVariants as origins
use Rattle.key_terms.proofs.Places.{slice_get_stays, slice_get_at_end, slice_get_push}
use Rattle.key_audit.specs.{declared.audits.AuditRow.AuditRow, Derives.held_by, Exact.can_in, Exact.from_in}
use Rattle.key_audit.specs.Local.{held_first, local_mark, mark_of, mark_at, IsClean, AreClean, Fills, RowFits, FitBelow}
use Rattle.key_audit.proofs.{Neighbours.above_same, Fitting.Fits}

-- no station
nobody : AuditRow
nobody = record { can = []; from = [] }

-- a row that stands is read as before
read_stays : (audit : List AuditRow) (made : AuditRow) (j : ℕ) → j < length audit → slice_get (audit ++ made ∷ []) j ≡ slice_get audit j
read_stays audit made j below =
    let at = slice_get-get_or audit j nobody below in
    slice_get_stays audit (made ∷ []) j (get_or audit j nobody) at ∙ sym at

mark_stays : (audit : List AuditRow) (made : AuditRow) (s j : ℕ) → j < length audit → mark_at (audit ++ made ∷ []) s j ≡ mark_at audit s j
mark_stays audit made s j below = ap (mark_of s) (read_stays audit made j below)

local_stays : (rows : List LadderRow)
    → IsLadder rows
    → (audit : List AuditRow) (made : AuditRow) (s k : ℕ) (r : LadderRow)
    → slice_get rows k ≡ Some r
    → k ≤ length audit
    → local_mark rows (mark_at (audit ++ made ∷ []) s) s k r ≡ local_mark rows (mark_at audit s) s k r
local_stays rows ladder audit made s k r at within =
    ap (held_first (held_by s r) k) (above_same rows k r.octets r.origin (ladder.made k r at)
    (mark_at (audit ++ made ∷ []) s) (mark_at audit s)
    (λ j less. mark_stays audit made s j (omega (arith, less, within))))

-- the rows before row k are filled
pub record Filled (rows : List LadderRow) (audit : List AuditRow) (k : ℕ) : Type 0 where
  pub as_many : length audit ≡ k
  pub each : FitBelow rows audit k
  pub clean : AreClean audit

-- a row that stood fits, and the new one does
fits_still : (rows : List LadderRow)
    → IsLadder rows
    → (audit : List AuditRow) (made : AuditRow) (j s : ℕ)
    → j < length audit
    → RowFits rows audit j s
    → RowFits rows (audit ++ made ∷ []) j s
fits_still rows ladder audit made j s below fits = record {
  mark = λ r at. mark_stays audit made s j below ∙ fits.mark r at ∙ sym (local_stays rows ladder audit made s j r at (omega (arith, below)));
  nothing = λ cannot. ap (from_in s) (read_stays audit made j below) ∙ fits.nothing (sym (ap (can_in s) (read_stays audit made j below)) ∙ cannot);
}

fits_new : (rows : List LadderRow)
    → IsLadder rows
    → (audit : List AuditRow) (made : AuditRow) (k s : ℕ)
    → k ≡ length audit
    → s < 8
    → k < length rows
    → ((r : LadderRow) → slice_get rows k ≡ Some r → Fills rows audit k r made)
    → RowFits rows (audit ++ made ∷ []) k s
fits_new rows ladder audit made k s number few within fills =
    let end : slice_get (audit ++ made ∷ []) k ≡ Some made = ap (slice_get (audit ++ made ∷ [])) number ∙ slice_get_at_end audit made in
    let row = slice_get-get_or rows k (unheld origins.Root []) within in
    record {
      mark = λ r at. ap (mark_of s) end ∙ (fills r at).marks s few ∙ sym (local_stays rows ladder audit made s k r at (omega (arith, number)));
      nothing = λ cannot. ap (from_in s) end ∙ (fills _ row).clean s few (sym (ap (can_in s) end) ∙ cannot);
    }

pub filled_more : (rows : List LadderRow)
    → IsLadder rows
    → (audit after : List AuditRow) (made : AuditRow) (k : ℕ)
    → after ≡ audit ++ made ∷ []
    → Filled rows audit k
    → k < length rows
    → ((r : LadderRow) → slice_get rows k ≡ Some r → Fills rows audit k r made) → Filled rows after (k + 1)
filled_more rows ladder audit after made k put filled within fills = subst (λ a. Filled rows a (k + 1)) (sym put) (record {
  as_many = length-append audit (made ∷ []) ∙ omega (arith, filled.as_many);
  each = λ j below s few. elim (cases_lt j k) [
    | inl before ↦ fits_still rows ladder audit made j s (omega (arith, before, filled.as_many)) (filled.each j before s few)
    | inr last ↦
        let this : k ≡ j = omega (arith, last, below) in
        subst (λ i. RowFits rows (audit ++ made ∷ []) i s) this
        (fits_new rows ladder audit made k s (sym filled.as_many) few within fills)
  ];
  clean = λ j row at. elim (slice_get_push audit made j row at) [
    | inl before ↦ filled.clean j row before
    | inr last ↦ subst (λ r. IsClean (Some r)) (sym last.1) (fills _ (slice_get-get_or rows k (unheld origins.Root []) within)).clean
  ];
})

pub filled_all : (rows : List LadderRow) (audit : List AuditRow) (k : ℕ) → Filled rows audit k → k ≡ length rows → Fits rows audit
filled_all rows audit k filled all = record {
  as_many = filled.as_many ∙ all;
  each = λ j below. filled.each j (omega (arith, below, all));
}
