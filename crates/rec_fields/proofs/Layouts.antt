-- Layouts: what is read by a layout is spelled by it, and what is spelled by it is read.
use Rattle.std.proofs.Common.{◌≡◌, ℕ, ◌+◌, ◌<◌, ◌≤◌, ◌^◌, Bool, true, false, cond, eqb, List, [], ◌∷◌, ◌++◌, length, take, drop, Result, Ok, refl, sym, ap, subst, ◌∙◌, append-nil, drop-drop, length-drop, length-append, arith}
use Rattle.std.proofs.lemmas.Bool.{eqb-true, eqb-false, ne_eqb}
use Rattle.std.proofs.Math.Seq.{drop-append_seam, take-append_seam}
use Rattle.rec_base.specs.BigEndian.{number_of, octets_of, field_at, number_at}
use Rattle.rec_base.proofs.Numbers.{AreOctets, number_of-octets_of, number_of-one, length-octets_of}
use Rattle.rec_fields.specs.Field.{◌>>=◌}
use Rattle.rec_fields.specs.Layout.{Field, Ending, Layout, Empty, Last, Rest, Then, Values, read_by, spelled_by, width_of, Readers, by_kind, read_rows}
use Rattle.rec_fields.proofs.Fields.{bind_ok, passes, kind_takes, octet_is}

-- each value is one of its field
abbrev pub FitBy : {F : Type 0} → (l : Layout F) → Values l → Type 0
FitBy Empty vs = Unit {0}
FitBy (Last f) x = f.Fits x
FitBy (Rest most) x = length x ≤ most
FitBy (Then f l) vs = f.Fits vs.0 × FitBy l vs.1

-- what stands behind octets of a width
pub behind : (octets front rest : List ℕ) (place width : ℕ) → length front ≡ width → drop place octets ≡ front ++ rest → drop (place + width) octets ≡ rest
behind octets front rest place width size e =
    sym (drop-drop width place octets) ∙ ap (drop width) e ∙ ap (λ w. drop w (front ++ rest)) (sym size) ∙ drop-append_seam front rest

-- the field there
pub field_is : (octets front rest : List ℕ) (place width : ℕ) → length front ≡ width → drop place octets ≡ front ++ rest → field_at octets place width ≡ front
unfolding field_at
field_is octets front rest place width size e =
    ap (take width) e ∙ ap (λ w. take w (front ++ rest)) (sym size) ∙ take-append_seam front rest

-- the number there
pub number_is : (octets rest : List ℕ) (place width n : ℕ) → n < 256 ^ width → drop place octets ≡ octets_of width n ++ rest → number_at octets place width ≡ n
unfolding number_at
number_is octets rest place width n h e =
    ap number_of (field_is octets (octets_of width n) rest place width (length-octets_of width n) e) ∙ number_of-octets_of width n h

pub octet_there : (octets rest : List ℕ) (place n : ℕ) → drop place octets ≡ n ∷ rest → number_at octets place 1 ≡ n
unfolding number_at
octet_there octets rest place n e =
    ap number_of (field_is octets (n ∷ []) rest place 1 refl e) ∙ number_of-one (n ∷ []) (omega arith)

-- so many octets stand at a place where they are spelled
pub stands : (octets front rest : List ℕ) (place : ℕ) → 0 < length front → drop place octets ≡ front ++ rest → place + length front ≤ length octets
stands octets front rest place some e =
    let size : length (drop place octets) ≡ length front + length rest = ap length e ∙ length-append front rest in
    omega (arith, length-drop place octets)

-- The laws of a field, where octets are long enough for it: what is read is spelled there, and what is spelled there is read.
pub record IsField {F A : Type 0} (Enough : List ℕ → ℕ → Type 0) (f : Field F A) : Type 0 where
  pub takes : (octets : List ℕ) (place : ℕ) (x : A) → AreOctets octets → Enough octets (place + f.width) → f.read octets place ≡ Ok x
      → (drop place octets ≡ f.spell x ++ drop (place + f.width) octets) × f.Fits x
  pub again : (octets rest : List ℕ) (place : ℕ) (x : A) → f.Fits x → drop place octets ≡ f.spell x ++ rest → f.read octets place ≡ Ok x
  pub size : (x : A) → f.Fits x → length (f.spell x) ≡ f.width

abbrev pub AreFields : {F : Type 0} → (List ℕ → ℕ → Type 0) → Layout F → Type 0
AreFields Enough Empty = Unit {0}
AreFields Enough (Last f) = IsField Enough f
AreFields Enough (Rest most) = Unit {0}
AreFields Enough (Then f l) = IsField Enough f × AreFields Enough l

-- The laws of an end: `Whole` is what is known of octets before their fields are read.
pub record IsEnding {F : Type 0} (Enough Whole : List ℕ → ℕ → Type 0) (e : Ending F) : Type 0 where
  pub enough : (octets : List ℕ) (n m : ℕ) → m ≤ n → Whole octets n → Enough octets m
  pub none_takes : (octets : List ℕ) (place : ℕ) (x : Unit {0}) → Whole octets place → e.none octets place ≡ Ok x → drop place octets ≡ []
  pub none_again : (octets : List ℕ) (place : ℕ) → drop place octets ≡ [] → e.none octets place ≡ Ok tt
  pub rest_takes : (most : ℕ) (octets : List ℕ) (place : ℕ) (x : List ℕ) → e.rest most octets place ≡ Ok x → (drop place octets ≡ x) × (length x ≤ most)
  pub rest_again : (most : ℕ) (octets : List ℕ) (place : ℕ) (x : List ℕ) → length x ≤ most → drop place octets ≡ x → e.rest most octets place ≡ Ok x

-- what a reader by a layout found: the values, what was made of them, where they are spelled, and their ranges
abbrev pub Found : {F B : Type 0} (l : Layout F) → List ℕ → (Values l → Result B F) → B → Type 0
Found l rest k y = (vs : Values l) × (k vs ≡ Ok y) × (rest ≡ spelled_by l vs) × FitBy l vs

pub found : {F B : Type 0} {Enough Whole : List ℕ → ℕ → Type 0} {e : Ending F} → IsEnding Enough Whole e → (l : Layout F) → AreFields Enough l
    → (octets : List ℕ) (place : ℕ) (k : Values l → Result B F) (y : B)
    → AreOctets octets
    → Whole octets (place + width_of l)
    → read_by e l octets place k ≡ Ok y
    → Found l (drop place octets) k y
found {Whole} {e} is Empty law octets place k y fit whole read =
    let here : place + 0 ≡ place = omega arith in
    let a = bind_ok (e.none octets place) k y read in
    (tt, a.2, is.none_takes octets place a.0 (subst (Whole octets) here whole) a.1, tt)
found {e} is (Last f) law octets place k y fit whole read =
    let end = place + f.width in
    let a = bind_ok (f.read octets place) (λ x. e.none octets end >>= λ end. k x) y read in
    let b = bind_ok (e.none octets end) (λ end. k a.0) y a.2 in
    let t = law.takes octets place a.0 fit (is.enough octets end end (omega arith) whole) a.1 in
    let none = is.none_takes octets end b.0 whole b.1 in
    (a.0, b.2, t.0 ∙ ap (λ r. f.spell a.0 ++ r) none ∙ append-nil (f.spell a.0), t.1)
found {e} is (Rest most) law octets place k y fit whole read =
    let a = bind_ok (e.rest most octets place) k y read in
    let t = is.rest_takes most octets place a.0 a.1 in
    (a.0, a.2, t.0, t.1)
found {Whole} {e} is (Then f l) law octets place k y fit whole read =
    let next = place + f.width in
    let end : place + (f.width + width_of l) ≡ next + width_of l = omega arith in
    let a = bind_ok (f.read octets place) (λ x. read_by e l octets next (λ vs. k (x, vs))) y read in
    let t = law.0.takes octets place a.0 fit (is.enough octets (place + (f.width + width_of l)) next (omega arith) whole) a.1 in
    let r = found is l law.1 octets next (λ vs. k (a.0, vs)) y fit (subst (Whole octets) end whole) a.2 in
    ((a.0, r.0), r.1, t.0 ∙ ap (λ r. f.spell a.0 ++ r) r.2, (t.1, r.3))

pub again : {F B : Type 0} {Enough Whole : List ℕ → ℕ → Type 0} {e : Ending F} → IsEnding Enough Whole e → (l : Layout F) → AreFields Enough l
    → (octets : List ℕ) (place : ℕ) (k : Values l → Result B F) (vs : Values l)
    → FitBy l vs
    → drop place octets ≡ spelled_by l vs
    → read_by e l octets place k ≡ k vs
again is Empty law octets place k vs fit spelled = ap (λ r. r >>= k) (is.none_again octets place spelled)
again {e} is (Last f) law octets place k x fit spelled =
    let end = place + f.width in
    let front : drop place octets ≡ f.spell x ++ [] = spelled ∙ sym (append-nil (f.spell x)) in
    let none = is.none_again octets end (behind octets (f.spell x) [] place f.width (law.size x fit) front) in
    ap (λ r. r >>= λ x. e.none octets end >>= λ end. k x) (law.again octets [] place x fit front) ∙ ap (λ r. r >>= λ end. k x) none
again is (Rest most) law octets place k x fit spelled = ap (λ r. r >>= k) (is.rest_again most octets place x fit spelled)
again {e} is (Then f l) law octets place k vs fit spelled =
    let next = place + f.width in
    let rest = behind octets (f.spell vs.0) (spelled_by l vs.1) place f.width (law.0.size vs.0 fit.0) spelled in
    ap (λ r. r >>= λ x. read_by e l octets next (λ ws. k (x, ws))) (law.0.again octets (spelled_by l vs.1) place vs.0 fit.0 spelled)
    ∙ again is l law.1 octets next (λ ws. k (vs.0, ws)) vs.1 fit.1 rest

-- no field stands to the end
abbrev pub IsSized : {F : Type 0} → Layout F → Type 0
IsSized Empty = Unit {0}
IsSized (Last f) = Unit {0}
IsSized (Rest most) = ⊥
IsSized (Then f l) = IsSized l

-- what is spelled by a layout has its width
pub spelled_width : {F : Type 0} (Enough : List ℕ → ℕ → Type 0) (l : Layout F) → AreFields Enough l → IsSized l → (vs : Values l) → FitBy l vs
    → length (spelled_by l vs) ≡ width_of l
spelled_width Enough Empty law sized vs fit = refl
spelled_width Enough (Last f) law sized x fit = law.size x fit
spelled_width Enough (Rest most) law sized x fit = absurd sized
spelled_width Enough (Then f l) law sized vs fit =
    omega (arith, length-append (f.spell vs.0) (spelled_by l vs.1), law.0.size vs.0 fit.0, spelled_width Enough l law.1 sized vs.1 fit.1)

-- what is read of octets is spelled by them, and in its ranges
abbrev pub Spelled : {A : Type 0} → (A → List ℕ) → (A → Type 0) → List ℕ → A → Type 0
Spelled spell Fits octets x = (octets ≡ spell x) × Fits x

-- a row reads what is spelled under its kind
abbrev pub IsRow : {F A : Type 0} → (A → List ℕ) → (A → Type 0) → ℕ × (List ℕ → Result A F) → Type 0
IsRow {A} spell Fits row = (octets : List ℕ) (x : A) → AreOctets octets → octets ≡ row.0 ∷ drop 1 octets → row.1 octets ≡ Ok x → Spelled spell Fits octets x

abbrev pub AreRows : {F A : Type 0} → (A → List ℕ) → (A → Type 0) → Readers F A → Type 0
AreRows spell Fits [] = Unit {0}
AreRows spell Fits (row ∷ rows) = IsRow spell Fits row × AreRows spell Fits rows

by_test : {F A : Type 0} (P : A → Type 0) (b : Bool) (u v : Result A F) (x : A) → (b ≡ true → u ≡ Ok x → P x) → (v ≡ Ok x → P x) → cond b u v ≡ Ok x → P x
by_test P true u v x f g e = f refl e
by_test P false u v x f g e = g e

-- what is read by a table is spelled so
pub kinds_take : {F A : Type 0} (unknown : F) (spell : A → List ℕ) (Fits : A → Type 0) (rows : Readers F A)
    (octets : List ℕ) (kind : ℕ) (x : A)
    → AreRows spell Fits rows
    → AreOctets octets
    → octets ≡ kind ∷ drop 1 octets → by_kind unknown rows kind octets ≡ Ok x → Spelled spell Fits octets x
kinds_take unknown spell Fits [] octets kind x are fit front e = absurd cc
kinds_take unknown spell Fits (row ∷ rows) octets kind x are fit front e =
    by_test (Spelled spell Fits octets) (eqb kind row.0) (row.1 octets) (by_kind unknown rows kind octets) x
    (λ is k. are.0 octets x fit (front ∙ ap (λ n. n ∷ drop 1 octets) (eqb-true kind row.0 is)) k)
    (λ k. kinds_take unknown spell Fits rows octets kind x are.1 fit front k) e

-- the same of octets that begin with their kind
pub rows_take : {F A : Type 0} (none unknown : F) (spell : A → List ℕ) (Fits : A → Type 0) (rows : Readers F A)
    (octets : List ℕ) (x : A)
    → AreRows spell Fits rows
    → AreOctets octets
    → read_rows none unknown rows octets ≡ Ok x → Spelled spell Fits octets x
rows_take none unknown spell Fits rows octets x are fit e =
    let some = passes (eqb (length octets) 0) none (by_kind unknown rows (number_at octets 0 1) octets) x e in
    let differs = eqb-false (length octets) 0 some.0 in
    kinds_take unknown spell Fits rows octets (number_at octets 0 1) x are fit (kind_takes octets (number_at octets 0 1) (omega arith) refl) some.1

-- reading goes on by the kind
pub rows_on : {F A : Type 0} (none unknown : F) (rows : Readers F A) (kind : ℕ) (rest : List ℕ)
    → read_rows none unknown rows (kind ∷ rest) ≡ by_kind unknown rows kind (kind ∷ rest)
rows_on none unknown rows kind rest =
    let octets : List ℕ = kind ∷ rest in
    let differs : eqb (length octets) 0 ≡ false = ne_eqb _ _ (omega arith) in
    rw differs (ap (λ k. by_kind unknown rows k octets) (octet_is octets 0 (omega arith)))
