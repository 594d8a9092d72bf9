-- Along the chain of a value no record with the octets is passed over.
use Rattle.std.proofs.Common.{◌≡◌, ℕ, ◌<◌, ◌≤◌, ◌+◌, ◌-◌, inl, inr, Bool, true, false, ◌&&◌, Option, Some, None, List, [], ◌∷◌, ◌++◌, length, length-append, add-one, map, take, drop, min, slice_get, sym, refl, ap, subst, ◌∙◌, arith, true≢false}
use Rattle.std.specs.{Option.option_map, Str.bytes_eq}
use Rattle.std.proofs.{lemmas.Bool.cases_lt, Math.Seq.take-suc, lemmas.Slice.Eq.bytes_eq-Decides}
use Rattle.std.proofs.lemmas.List.{take-append-drop, length-take, length-map, map-append}
use Rattle.lte_events.specs.{declared.addresses.Address.Address, declared.classes.Class.Class}
use Rattle.std.proofs.lemmas.Option.{slice_get-map, slice_get_within, slice_get_cases, none-some}
use Rattle.key_terms.proofs.Places.{slice_get_stays, position_first, position_nowhere}
use Rattle.sha2.specs.Sha256.{sha256}
use Rattle.lte_events.specs.declared.classes.Class.TheVariants.{Nas, Air, S1, X2}
use Rattle.net_bag.specs.{declared.view.BagView.BagView, Class.class_octet, Class.digest, Chains.IsFirstFrom}
use Rattle.lte_events.specs.Class.{class_of, same_class, told_in}
use Rattle.net_bag.specs.Bag.{is_sent, first_sent, digest_of, IsIndexOf}

both : (a b : Bool) → (a && b) ≡ true → (a ≡ true) × (b ≡ true)
both true true e = (refl, refl)
both true false e = absurd (true≢false (sym e))
both false b e = absurd (true≢false (sym e))

class_is : (a b : Class) → same_class a b ≡ true → a ≡ b
class_is Nas Nas e = refl
class_is Air Air e = refl
class_is S1 S1 e = refl
class_is X2 X2 e = refl
class_is Nas Air e = absurd (true≢false (sym e))
class_is Nas S1 e = absurd (true≢false (sym e))
class_is Nas X2 e = absurd (true≢false (sym e))
class_is Air Nas e = absurd (true≢false (sym e))
class_is Air S1 e = absurd (true≢false (sym e))
class_is Air X2 e = absurd (true≢false (sym e))
class_is S1 Nas e = absurd (true≢false (sym e))
class_is S1 Air e = absurd (true≢false (sym e))
class_is S1 X2 e = absurd (true≢false (sym e))
class_is X2 Nas e = absurd (true≢false (sym e))
class_is X2 Air e = absurd (true≢false (sym e))
class_is X2 S1 e = absurd (true≢false (sym e))

-- octets that tell the same have the same value
digest_told : (class : Class) (a b : List ℕ) → told_in class a ≡ told_in class b → digest class a ≡ digest class b
unfolding digest
digest_told class a b same = ap (λ told. sha256 (class_octet class ∷ told)) same

-- a record with the octets has their value
digest_same : (class : Class) (octets : List ℕ) (r : BagView) → is_sent class octets r ≡ true → digest_of r ≡ digest class octets
digest_same class octets r passes =
    let h = both (same_class class (class_of r.to)) (bytes_eq (told_in class octets) (told_in class r.octets)) passes in
    let told : told_in class octets ≡ told_in class r.octets = (bytes_eq-Decides (told_in class octets) (told_in class r.octets)).0 h.1 in
    sym (digest_told class octets r.octets told ∙ ap (λ c. digest c r.octets) (class_is class (class_of r.to) h.0))

-- the mark is no further than the records
pub mark_within : (digests : List (List ℕ)) (records : List BagView) → IsIndexOf digests records → length digests ≤ length records
mark_within digests records index =
    let len : length digests ≡ min (length digests) (length records) =
    ap length index ∙ length-map (take (length digests) records) digest_of ∙ length-take (length digests) records in
    omega (arith, len)

-- a record before the mark has its value in the index
digest_at : (digests : List (List ℕ)) (records : List BagView) (j : ℕ) (r : BagView)
    → IsIndexOf digests records
    → j < length digests
    → slice_get records j ≡ Some r
    → slice_get digests j ≡ Some (digest_of r)
digest_at digests records j r index lt at =
    let front = take (length digests) records in
    let within = mark_within digests records index in
    let len : length front ≡ min (length digests) (length records) = length-take (length digests) records in
    elim (slice_get_cases front j).1 [
      | inl h ↦
          let whole : slice_get records j ≡ Some h.0 = ap (λ xs. slice_get xs j)
          (sym (take-append-drop (length digests) records))
          ∙ slice_get_stays front (drop (length digests) records) j h.0 h.2 in
          let same : h.0 ≡ r = cc in
          ap (λ ds. slice_get ds j) index ∙ slice_get-map digest_of front j ∙ ap (option_map digest_of) h.2 ∙ ap (λ r'. Some (digest_of r')) same
      | inr h ↦ absurd (omega (arith, len, h.0, lt, within))
    ]

-- where the index has no such value, the record has not the octets
fails : (digests : List (List ℕ)) (records : List BagView) (class : Class) (octets : List ℕ) (j : ℕ) (r : BagView)
    → IsIndexOf digests records
    → j < length digests
    → slice_get records j ≡ Some r
    → (slice_get digests j ≡ Some (digest class octets) → ⊥)
    → is_sent class octets r ≡ false
fails digests records class octets j r index lt at none = by (is_sent class octets r) refl
  where
    by : (b : Bool) → is_sent class octets r ≡ b → b ≡ false
    by false e = refl
    by true e = absurd (none (digest_at digests records j r index lt at ∙ ap Some (digest_same class octets r e)))

-- a record that may be the first with these octets: it is in the index under their value, and none before it has them
abbrev pub IsCandidate : List (List ℕ) → List BagView → Class → List ℕ → Option ℕ → Type 0
IsCandidate digests records class octets None =
    (j : ℕ) (r : BagView) → j < length digests → slice_get records j ≡ Some r → is_sent class octets r ≡ false
IsCandidate digests records class octets (Some k) =
    (slice_get digests k ≡ Some (digest class octets)) × ((j : ℕ) (r : BagView) → j < k → slice_get records j ≡ Some r → is_sent class octets r ≡ false)

-- the first of the value may be the first with the octets
pub begins : (digests : List (List ℕ)) (records : List BagView) (class : Class) (octets : List ℕ) (o : Option ℕ)
    → IsIndexOf digests records
    → IsFirstFrom digests (digest class octets) 0 o
    → IsCandidate digests records class octets o
begins digests records class octets None index first =
    λ j r lt at. fails digests records class octets j r index lt at (first j (omega arith))
begins digests records class octets (Some k) index first =
    let within = slice_get_within digests k (digest class octets) first.1 in
    (first.1, λ j r lt at. fails digests records class octets j r index (omega (arith, lt, within)) at (first.2 j (omega arith) lt))

-- where it has not the octets, the next of the value may be the first
pub goes_on : (digests : List (List ℕ)) (records : List BagView) (class : Class) (octets : List ℕ)
    (k : ℕ) (o : Option ℕ)
    → IsIndexOf digests records
    → IsCandidate digests records class octets (Some k)
    → option_map (is_sent class octets) (slice_get records k) ≡ Some false
    → IsFirstFrom digests (digest class octets) (k + 1) o
    → IsCandidate digests records class octets o
goes_on digests records class octets k o index here other first = by o first
  where
    -- before the next no record has the octets
    before : (j : ℕ) (r : BagView)
        → j < length digests
        → slice_get records j ≡ Some r
        → (k < j → slice_get digests j ≡ Some (digest class octets) → ⊥)
        → is_sent class octets r ≡ false
    before j r within at later =
        elim (cases_lt j k) [
          | inl lt ↦ here.1 j r lt at
          | inr le ↦ elim (cases_lt k j) [
            | inl lt ↦ fails digests records class octets j r index within at (later lt)
            | inr ge ↦
                let same : j ≡ k = omega (arith, le, ge) in
                let read : option_map (is_sent class octets) (slice_get records j) ≡ Some false = subst
                (λ n. option_map (is_sent class octets) (slice_get records n) ≡ Some false) (sym same) other in
                let e : Some (is_sent class octets r) ≡ Some false = sym (ap (option_map (is_sent class octets)) at) ∙ read in
                cc
          ]
        ]

    by : (o : Option ℕ) → IsFirstFrom digests (digest class octets) (k + 1) o → IsCandidate digests records class octets o
    by None first = λ j r lt at. before j r lt at (λ later. first j (omega (arith, later)))
    by (Some n) first =
        let within = slice_get_within digests n (digest class octets) first.1 in
        (first.1, λ j r lt at. before j r (omega (arith, lt, within)) at (λ later. first.2 j (omega (arith, later)) lt))

-- a record of which something is read stands
reads : (records : List BagView) (k : ℕ) (p : BagView → Bool) (b : Bool)
    → option_map p (slice_get records k) ≡ Some b
    → (r : BagView) × (slice_get records k ≡ Some r) × (p r ≡ b)
reads records k p b read =
    elim (slice_get_cases records k).1 [
      | inl h ↦ let e = sym (ap (option_map p) h.2) ∙ read in (h.0, h.2, cc)
      | inr h ↦ absurd (none-some b (sym (ap (option_map p) h.1) ∙ read))
    ]

-- a record with the octets, and none before it: it is the first
pub is_first : (records : List BagView) (class : Class) (octets : List ℕ) (k : ℕ)
    → option_map (is_sent class octets) (slice_get records k) ≡ Some true
    → ((j : ℕ) (r : BagView) → j < k → slice_get records j ≡ Some r → is_sent class octets r ≡ false)
    → first_sent records class octets ≡ Some k
is_first records class octets k read before =
    let row = reads records k (is_sent class octets) true read in
    position_first (is_sent class octets) records k row.0 row.1 row.2 before

-- and there is none where no record has the octets
pub is_none : (records : List BagView) (class : Class) (octets : List ℕ)
    → ((j : ℕ) (r : BagView) → j < length records → slice_get records j ≡ Some r → is_sent class octets r ≡ false)
    → first_sent records class octets ≡ None
is_none records class octets none =
    position_nowhere (is_sent class octets) records (λ j r at. none j r (slice_get_within records j r at) at)

-- how far a candidate is from the mark
abbrev pub left : Option ℕ → ℕ → ℕ
left None mark = 0
left (Some k) mark = mark - k

-- the next candidate is nearer
pub nearer : (digests : List (List ℕ)) (d : List ℕ) (k : ℕ) (o : Option ℕ)
    → slice_get digests k ≡ Some d
    → IsFirstFrom digests d (k + 1) o
    → left o (length digests) < left (Some k) (length digests)
nearer digests d k None at first = let within = slice_get_within digests k d at in omega (arith, within)
nearer digests d k (Some n) at first =
    let within = slice_get_within digests n d first.1 in
    let le = first.0 in
    omega (arith, within, le)

-- the index with the value of one record more
pub index_step : (digests after : List (List ℕ)) (records : List BagView) (n : ℕ) (to : Address) (octets value : List ℕ)
    → IsIndexOf digests records
    → length digests ≡ n
    → option_map (λ r. r.to) (slice_get records n) ≡ Some to
    → option_map (λ r. r.octets) (slice_get records n) ≡ Some octets
    → value ≡ digest (class_of to) octets → after ≡ digests ++ value ∷ [] → IsIndexOf after records × (length after ≡ n + 1)
index_step digests after records n to octets value index mark at_to at_octets is put =
    elim (slice_get_cases records n).1 [
      | inl h ↦
          let to_is : Some h.0.to ≡ Some to = sym (ap (option_map (λ r. r.to)) h.2) ∙ at_to in
          let octets_is : Some h.0.octets ≡ Some octets = sym (ap (option_map (λ r. r.octets)) h.2) ∙ at_octets in
          let t : to ≡ h.0.to = cc in
          let o : octets ≡ h.0.octets = cc in
          let v : value ≡ digest_of h.0 = is ∙ (λ i. digest (class_of (t i)) (o i)) in
          let size : length after ≡ n + 1 = ap length put ∙ length-append digests (value ∷ []) ∙ omega (arith, mark) in
          let front : take (n + 1) records ≡ take n records ++ h.0 ∷ [] = rw add-one (take-suc records n h.0 h.1 ∙ ap (λ r. take n records ++ r ∷ []) h.3) in
          let before : digests ≡ map digest_of (take n records) = index ∙ ap (λ k. map digest_of (take k records)) mark in (
            put
                ∙ (λ i. before i ++ v i ∷ [])
                ∙ sym (map-append digest_of (take n records) (h.0 ∷ []))
                ∙ ap (map digest_of) (sym front)
                ∙ ap (λ k. map digest_of (take k records)) (sym size),
            size,
          )
      | inr h ↦ absurd (none-some to (sym (ap (option_map (λ r. r.to)) h.1) ∙ at_to))
    ]
