-- Records by their forms: what is read is spelled so, and what is spelled so is read.
use Rattle.std.proofs.Common.{◌≡◌, ℕ, Bool, true, false, List, [], ◌∷◌, ◌++◌, Result, Ok, Err, refl, sym, ap, subst, ◌∙◌}
use Rattle.std.specs.Prelude.{if◌then◌else◌, IfOk}
use Rattle.rec_base.specs.declared.faults.RecFault.{RecFault}
use Rattle.rec_base.specs.declared.faults.RecFault.TheVariants.{Short, BadKind}
use Rattle.rec_base.proofs.Numbers.{AreOctets}
use Rattle.rec_fields.specs.Layout.{Values, spelled_by, by_kind}
use Rattle.rec_fields.specs.Name.{Name, Connection, NextConnection, Request, Attempt, Air, Station, Source, Ncc, Cell, Algorithms, Capabilities, Replayed, Kenb, Nh, Star, Ksi, Cause, meaning, field, has_any, Entry}
use Rattle.rec_fields.specs.Form.{Body, Of, Text, layout_of, layout, Form, Said, ranged, AllInRange, EntriesInRange, SaidInRange, entries, said, entries_octets, said_octets, spelled, read_as, record_by, readers, read_forms}
use Rattle.rec_fields.proofs.Layouts.{IsField, AreFields, IsSized, AreRows, FitBy, rows_take, rows_on}
use Rattle.rec_fields.proofs.Records.{Reach, IsRecord, octet_is_field, octet_to_is_field, number_is_field, cell_is_field, algorithms_is_field, capabilities_is_field, caps_again, key_is_field, record_row, read_again}

is_field : (name : Name) → IsField Reach (field name)
is_field Connection = number_is_field
is_field NextConnection = number_is_field
is_field Request = number_is_field
is_field Attempt = number_is_field
is_field Air = number_is_field
is_field Station = octet_to_is_field 7
is_field Source = octet_to_is_field 7
is_field Ncc = octet_to_is_field 7
is_field Cell = cell_is_field
is_field Algorithms = algorithms_is_field
is_field Capabilities = capabilities_is_field
is_field Replayed = record {
  takes = λ octets place x fit within e. ((capabilities_is_field.takes octets place x fit within e).0, tt);
  again = λ octets rest place x fit e. caps_again octets rest place x e;
  size = λ x fit. refl;
}
is_field Kenb = key_is_field
is_field Nh = key_is_field
is_field Star = key_is_field
is_field Ksi = octet_to_is_field 6
is_field Cause = octet_is_field 23 24

are_fields : (names : List Name) → AreFields Reach (layout_of names)
are_fields [] = tt
are_fields (name ∷ []) = is_field name
are_fields (name ∷ next ∷ names) = (is_field name, are_fields (next ∷ names))

body_fields : (body : Body) → AreFields Reach (layout body)
body_fields (Of names) = are_fields names
body_fields (Text most) = tt

are_sized : (names : List Name) → IsSized (layout_of names)
are_sized [] = tt
are_sized (name ∷ []) = tt
are_sized (name ∷ next ∷ names) = are_sized (next ∷ names)

body_record : (body : Body) → IsRecord (layout body)
body_record (Of []) = tt
body_record (Of (name ∷ [])) = tt
body_record (Of (name ∷ next ∷ names)) = are_sized (next ∷ names)
body_record (Text most) = tt

entries_same : (names : List Name) (vs : Values (layout_of names)) → entries_octets (entries names vs) ≡ spelled_by (layout_of names) vs
entries_same [] vs = refl
entries_same (name ∷ []) x = refl
entries_same (name ∷ next ∷ []) vs = refl
entries_same (name ∷ next ∷ third ∷ names) vs = ap (λ r. (field name).spell vs.0 ++ r) (entries_same (next ∷ third ∷ names) vs.1)

-- what values are said as is spelled as they are
said_same : (body : Body) (vs : Values (layout body)) → said_octets (said body vs) ≡ spelled_by (layout body) vs
said_same (Of names) vs = entries_same names vs
said_same (Text most) text = refl

-- each value of a field without a range fits
any_fits : (name : Name) → has_any name ≡ true → (x : (meaning name).Value) → (field name).Fits x
any_fits Algorithms e x = tt
any_fits Replayed e x = tt
any_fits other e x = absurd cc

in_front : (any : Bool) (e : Entry) (es : List Entry) → (field e.0).Fits e.1 → AllInRange es → AllInRange (if any then es else e ∷ es)
in_front true e es h hs = hs
in_front false e [] h hs = h
in_front false e (next ∷ es) h hs = (h, hs)

parted : (any : Bool) (e : Entry) (es : List Entry) → (any ≡ true → (field e.0).Fits e.1) → AllInRange (if any then es else e ∷ es)
    → (field e.0).Fits e.1 × AllInRange es
parted true e es fits h = (fits refl, h)
parted false e [] fits h = (h, tt)
parted false e (next ∷ es) fits h = h

-- the first value, and the others
first_of : (e : Entry) (es : List Entry) → EntriesInRange (e ∷ es) → (field e.0).Fits e.1 × EntriesInRange es
first_of e es h = parted (has_any e.0) e (ranged es) (λ any. any_fits e.0 any e.1) h

-- values behind others
pub appended : (es more : List Entry) → EntriesInRange es → EntriesInRange more → EntriesInRange (es ++ more)
appended [] more h hs = hs
appended (e ∷ es) more h hs = let f = first_of e es h in in_front (has_any e.0) e (ranged (es ++ more)) f.0 (appended es more f.1 hs)

pub apart : (es more : List Entry) → EntriesInRange (es ++ more) → EntriesInRange es × EntriesInRange more
apart [] more h = (tt, h)
apart (e ∷ es) more h =
    let f = first_of e (es ++ more) h in
    let r = apart es more f.1 in
    (in_front (has_any e.0) e (ranged es) f.0 r.0, r.1)

-- values in range are those of their fields
fit_of : (names : List Name) (vs : Values (layout_of names)) → EntriesInRange (entries names vs) → FitBy (layout_of names) vs
fit_of [] vs h = tt
fit_of (name ∷ []) x h = (first_of (name, x) [] h).0
fit_of (name ∷ next ∷ names) vs h =
    let f = first_of (name, vs.0) (entries (next ∷ names) vs.1) h in (f.0, fit_of (next ∷ names) vs.1 f.1)

of_fit : (names : List Name) (vs : Values (layout_of names)) → FitBy (layout_of names) vs → EntriesInRange (entries names vs)
of_fit [] vs h = tt
of_fit (name ∷ []) x h = in_front (has_any name) (name, x) [] h tt
of_fit (name ∷ next ∷ names) vs h =
    in_front (has_any name) (name, vs.0) (ranged (entries (next ∷ names) vs.1)) h.0 (of_fit (next ∷ names) vs.1 h.1)

-- a record as its form and the values that it is made of
abbrev pub Shown : Type 0 → Type 0
Shown A = (form : Form A) × Values (layout form.body)

abbrev shown_octets : {A : Type 0} → Shown A → List ℕ
shown_octets s = s.0.kind ∷ spelled_by (layout s.0.body) s.1

-- its values are in their ranges
abbrev pub ShownFits : {A : Type 0} → Shown A → Type 0
ShownFits s = FitBy (layout s.0.body) s.1

-- what a form makes is shown as that form
abbrev pub AreShown : {A : Type 0} → (A → Shown A) → List (Form A) → Type 0
AreShown shown [] = Unit {0}
AreShown shown (form ∷ forms) = ((vs : Values (layout form.body)) → shown (form.make vs) ≡ (form, vs)) × AreShown shown forms

-- what is said of values is in range where they fit, and only there
said_fits : (body : Body) (vs : Values (layout body)) → SaidInRange body (said body vs) → FitBy (layout body) vs
said_fits (Of names) vs h = fit_of names vs h
said_fits (Text most) text h = h

fits_said : (body : Body) (vs : Values (layout body)) → FitBy (layout body) vs → SaidInRange body (said body vs)
fits_said (Of names) vs h = of_fit names vs h
fits_said (Text most) text h = h

-- A record is made of what it is shown as, says that under the names of its form, is spelled as it says, and its kind leads to its form. It is in range
-- exactly where what it says is.
pub record IsMade {A : Type 0} (forms : List (Form A)) (shown : A → Shown A) (says : A → Form A × Said) (spell : A → List ℕ) (InRange : A → Type 0) (r : A) : Type 0 where
  pub made : (shown r).0.make (shown r).1 ≡ r
  pub named : says r ≡ ((shown r).0, said (shown r).0.body (shown r).1)
  pub same : spelled (says r).0 (says r).1 ≡ spell r
  pub listed : (octets : List ℕ) → by_kind BadKind (readers forms) (shown r).0.kind octets ≡ record_by (shown r).0 octets
  pub within : InRange r → SaidInRange (says r).0.body (says r).1
  pub back : SaidInRange (says r).0.body (says r).1 → InRange r

module _ {A : Type 0} (forms : List (Form A)) (shown : A → Shown A) (says : A → Form A × Said) (spell : A → List ℕ) (InRange : A → Type 0)
    (made : (r : A) → IsMade forms shown says spell InRange r) where
  spelled_shown : (r : A) → shown_octets (shown r) ≡ spell r
  spelled_shown r =
      let s = shown r in
      sym (ap (λ octets. s.0.kind ∷ octets) (said_same s.0.body s.1)) ∙ sym (ap (λ t. spelled t.0 t.1) (made r).named) ∙ (made r).same

  shown_fits : (r : A) → InRange r → ShownFits (shown r)
  shown_fits r h =
      let s = shown r in
      said_fits s.0.body s.1 (subst (λ t. SaidInRange t.0.body t.1) (made r).named ((made r).within h))

  fits_shown : (r : A) → ShownFits (shown r) → InRange r
  fits_shown r h =
      let s = shown r in
      (made r).back (subst (λ t. SaidInRange t.0.body t.1) (sym (made r).named) (fits_said s.0.body s.1 h))

  rows_are : (some : List (Form A)) → AreShown shown some → AreRows spell InRange (readers some)
  unfolding read_as
  rows_are [] are = tt
  rows_are (form ∷ some) are = (
    record_row spell InRange form.kind (layout form.body) form.make (body_fields form.body)
        (λ vs. ap shown_octets (sym (are.0 vs)) ∙ spelled_shown (form.make vs))
        (λ vs h. fits_shown (form.make vs) (subst ShownFits (sym (are.0 vs)) h)),
    rows_are some are.1,
  )

  -- what is read is spelled so
  pub found_by : AreShown shown forms → (octets : List ℕ) (answer : Result A RecFault) → AreOctets octets → answer ≡ read_forms forms octets
      → IfOk answer (λ r. InRange r × (octets ≡ spell r))
  found_by are octets (Ok r) fit e =
      let t = rows_take Short BadKind spell InRange (readers forms) octets r (rows_are forms are) fit (sym e) in (t.1, t.0)
  found_by are octets (Err fault) fit e = tt

  -- what is spelled so is read
  pub read_back : (r : A) → InRange r → read_forms forms (spell r) ≡ Ok r
  unfolding read_as
  read_back r h =
      let s = shown r in
      ap (read_forms forms) (sym (spelled_shown r))
      ∙ rows_on Short BadKind (readers forms) s.0.kind (spelled_by (layout s.0.body) s.1)
      ∙ (made r).listed (shown_octets s)
      ∙ read_again (layout s.0.body) (body_fields s.0.body) (body_record s.0.body) s.0.make s.0.kind s.1 (shown_fits r h)
      ∙ ap Ok (made r).made
