-- The terms of the rows of a ladder: each is of those before it, has the octets of its row, and is of no other row.
use Rattle.std.proofs.Common.{◌≡◌, ℕ, zero, suc, ◌<◌, ◌⊎◌, inl, inr, Option, Some, None, List, refl, sym, ap, ◌∙◌, arith}
use Rattle.std.proofs.lemmas.Bool.{cases_lt, lt-ltb, le-ltb}
use Rattle.std.specs.{Option.option_map, List.slice_get}
use Rattle.hmac_kdf.specs.{declared.input.KdfInput.KdfInput, Kdf.kdf}
use Rattle.key_model.specs.Term.{Term, Kenb, Nh, Star, Alg}
use Rattle.key_model.specs.Value.{value_of}
use Rattle.key_terms.specs.{declared.row.LadderRow.LadderRow, declared.row.Origin.Origin}
use Rattle.key_terms.specs.declared.row.Origin.TheVariants as origins
use Rattle.key_terms.specs.Ladder.{row_of, IsMade, AreMade, IsLadder}
use Rattle.key_terms.proofs.LadderLemmas.{stands, found_row}
use Rattle.key_audit.specs.Terms.{if_before, sync_row, sync_term, origin_term, row_term, term_within, term_at}

-- the row of a SYNC-input comes before, and has the octets
pub if_before_cases : (k : ℕ) (o : Option ℕ) → (if_before k o ≡ None) ⊎ ((j : ℕ) × (if_before k o ≡ Some j) × (j < k) × (o ≡ Some j))
if_before_cases k None = inl refl
if_before_cases k (Some j) = elim (cases_lt j k) [
  | inl below ↦ inr (j, rw (lt-ltb j k below) refl, below, refl)
  | inr past ↦ inl (rw (le-ltb j k past) refl)
]

-- two numberings that are one below row k
abbrev pub SameBelow : ℕ → (ℕ → Term) → (ℕ → Term) → Type 0
SameBelow k f g = (j : ℕ) → j < k → f j ≡ g j

sync_same : (rows : List LadderRow) (k : ℕ) (sync : List ℕ) (f g : ℕ → Term)
    → SameBelow k f g
    → sync_term rows sync f (sync_row rows k sync) ≡ sync_term rows sync g (sync_row rows k sync)
sync_same rows k sync f g same = elim (if_before_cases k (row_of rows sync)) [
  | inl none ↦ rw none refl
  | inr some ↦ rw (some.1) (same some.0 some.2)
]

-- the term of a row depends on the terms of the rows before it alone
pub origin_same : (rows : List LadderRow) (f g : ℕ → Term) (k : ℕ) (octets : List ℕ) (o : Origin)
    → IsMade rows k o octets
    → SameBelow k f g
    → origin_term rows f k octets o ≡ origin_term rows g k octets o
origin_same rows f g k octets origins.Root made same = refl
origin_same rows f g k octets (origins.From key (KdfInput.Kenb count)) made same = ap (λ t. Kenb t count) (same key.0 made.0)
origin_same rows f g k octets (origins.From key (KdfInput.Nh sync)) made same =
    ap (λ t. Nh t (sync_term rows sync f (sync_row rows k sync))) (same key.0 made.0) ∙ ap (Nh (g key.0)) (sync_same rows k sync f g same)
origin_same rows f g k octets (origins.From key (KdfInput.Star pci earfcn)) made same = ap (λ t. Star t pci earfcn) (same key.0 made.0)
origin_same rows f g k octets (origins.From key (KdfInput.Alg kind identity)) made same = ap (λ t. Alg t kind identity) (same key.0 made.0)

row_same : (rows : List LadderRow)
    → AreMade rows
    → (f g : ℕ → Term) (k : ℕ)
    → SameBelow k f g
    → (o : Option LadderRow)
    → slice_get rows k ≡ o
    → row_term rows f k o ≡ row_term rows g k o
row_same rows made f g k same None at = refl
row_same rows made f g k same (Some r) at = origin_same rows f g k r.octets r.origin (made k r at) same

-- enough steps are enough
within_same : (rows : List LadderRow) → AreMade rows → (n m k : ℕ) → k < n → k < m → term_within n rows k ≡ term_within m rows k
within_same rows made zero m k small large = absurd (omega (arith, small))
within_same rows made (suc n) zero k small large = absurd (omega (arith, large))
within_same rows made (suc n) (suc m) k small large =
    row_same rows made (term_within n rows) (term_within m rows) k
    (λ j below. within_same rows made n m j (omega (arith, below, small)) (omega (arith, below, large)))
    (slice_get rows k) refl

-- the term of a row, by the terms of the rows before it
pub term_is : (rows : List LadderRow)
    → AreMade rows
    → (k : ℕ) (r : LadderRow)
    → slice_get rows k ≡ Some r
    → term_at rows k ≡ origin_term rows (term_at rows) k r.octets r.origin
unfolding term_at
term_is rows made k r at =
    ap (row_term rows (term_within k rows) k) at
    ∙ origin_same rows (term_within k rows) (term_at rows) k r.octets r.origin (made k r at) (λ j below. within_same rows made k (suc j) j below (omega arith))

-- its octets are those of the row
octets_same : (rows : List LadderRow) (k : ℕ)
    (value : (j : ℕ) → j < k → (r : LadderRow) → slice_get rows j ≡ Some r → value_of (term_at rows j) ≡ r.octets)
    (sync : List ℕ)
    → value_of (sync_term rows sync (term_at rows) (sync_row rows k sync)) ≡ sync
octets_same rows k value sync = elim (if_before_cases k (row_of rows sync)) [
  | inl none ↦ rw none refl
  | inr some ↦
      let row = found_row rows sync some.0 some.3 in
      rw (some.1) (value some.0 some.2 row.0 row.1 ∙ row.2)
]

derived_value : (rows : List LadderRow) (k : ℕ)
    → ((j : ℕ) → j < k → (r : LadderRow) → slice_get rows j ≡ Some r → value_of (term_at rows j) ≡ r.octets)
    → (octets : List ℕ) (o : Origin)
    → IsMade rows k o octets
    → value_of (origin_term rows (term_at rows) k octets o) ≡ octets
derived_value rows k value octets origins.Root made = refl
derived_value rows k value octets (origins.From key (KdfInput.Kenb count)) made =
    let row = stands (λ r. kdf r.octets (KdfInput.Kenb count)) rows key.0 octets made.1 in
    ap (λ o. kdf o (KdfInput.Kenb count)) (value key.0 made.0 row.0 row.1) ∙ row.2
derived_value rows k value octets (origins.From key (KdfInput.Nh sync)) made =
    let row = stands (λ r. kdf r.octets (KdfInput.Nh sync)) rows key.0 octets made.1 in
    ap (λ o. kdf o (KdfInput.Nh (value_of (sync_term rows sync (term_at rows) (sync_row rows k sync))))) (value key.0 made.0 row.0 row.1)
    ∙ ap (λ o. kdf row.0.octets (KdfInput.Nh o)) (octets_same rows k value sync) ∙ row.2
derived_value rows k value octets (origins.From key (KdfInput.Star pci earfcn)) made =
    let row = stands (λ r. kdf r.octets (KdfInput.Star pci earfcn)) rows key.0 octets made.1 in
    ap (λ o. kdf o (KdfInput.Star pci earfcn)) (value key.0 made.0 row.0 row.1) ∙ row.2
derived_value rows k value octets (origins.From key (KdfInput.Alg kind identity)) made =
    let row = stands (λ r. kdf r.octets (KdfInput.Alg kind identity)) rows key.0 octets made.1 in
    ap (λ o. kdf o (KdfInput.Alg kind identity)) (value key.0 made.0 row.0 row.1) ∙ row.2

values_below : (rows : List LadderRow) → AreMade rows → (n k : ℕ) → k < n → (r : LadderRow) → slice_get rows k ≡ Some r → value_of (term_at rows k) ≡ r.octets
values_below rows made zero k below r at = absurd (omega (arith, below))
values_below rows made (suc n) k below r at =
    ap value_of (term_is rows made k r at)
    ∙ derived_value rows k (λ j before. values_below rows made n j (omega (arith, before, below))) r.octets r.origin (made k r at)

pub value_is : (rows : List LadderRow) → AreMade rows → (k : ℕ) (r : LadderRow) → slice_get rows k ≡ Some r → value_of (term_at rows k) ≡ r.octets
value_is rows made k r at = values_below rows made (suc k) k (omega arith) r at

-- rows with one value are one row
pub one_row : (rows : List LadderRow)
    → IsLadder rows
    → (j k : ℕ) (q r : LadderRow)
    → slice_get rows j ≡ Some q
    → slice_get rows k ≡ Some r
    → term_at rows j ≡ term_at rows k
    → j ≡ k
one_row rows ladder j k q r at_j at_k same =
    let octets : q.octets ≡ r.octets = sym (value_is rows ladder.made j q at_j) ∙ ap value_of same ∙ value_is rows ladder.made k r at_k in
    let first : row_of rows r.octets ≡ Some j = ladder.apart j r.octets (ap (option_map (λ row. row.octets)) at_j ∙ ap Some octets) in
    let second : row_of rows r.octets ≡ Some k = ladder.apart k r.octets (ap (option_map (λ row. row.octets)) at_k) in
    let both : Some j ≡ Some k = sym first ∙ second in
    cc
