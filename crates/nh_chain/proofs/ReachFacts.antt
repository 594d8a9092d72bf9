-- What a phone derives, by the NH that its chain reached.
use Rattle.std.proofs.Common.{◌≡◌, ℕ, zero, suc, ◌+◌, ◌-◌, List, [], ◌∷◌, ◌++◌, length, map, Option, refl, sym, ◌∙◌, ap, arith}
use Rattle.std.proofs.lemmas.List.{length-append, length-map, map-append}
use Rattle.annex_a_keys.specs.{Cell.Place, declared.derived.Derived.Derived}
use Rattle.rec_base.specs.declared.ways.Way.{Way}
use Rattle.key_model.specs.{Term.Term, Chain.ncc_of, Value.value_of, Reading.octet_reading, HandoverTable.key_at_phone, HandoverTable.phone_number}
use Rattle.key_model.specs.HandoverLines.{PhoneKeys, key_after, nh_after, phone_line, steps_to}
use Rattle.key_model.specs.Derivation.{derived_of, nh_made, star_made}
use Rattle.key_model.proofs.LeastFacts.{least_from_remainder}
use Rattle.nh_chain.specs.Chain.{ChainState, climbed, number_after, nhs_made}
use Rattle.nh_chain.specs.Climb.{nh_reached, base_by, way_by}
use Rattle.nh_chain.specs.Reach.{phone_of, base_after, handover_made, way_after}
use Rattle.nh_chain.specs.Terms.{chain_at, chain_in_octets}
use Rattle.nh_chain.proofs.TermFacts.{climbed_to_line, line_in_octets}

-- KeNB* after so many steps
key_reached : (phone : PhoneKeys (List ℕ) ℕ) (steps pci earfcn : ℕ)
    → key_after octet_reading phone steps pci earfcn
    ≡ record {
      key = octet_reading.star (base_by (nh_reached octet_reading phone.root phone.sync steps) phone.active) pci earfcn;
      number = number_after octet_reading phone.number steps;
    }
key_reached phone zero pci earfcn = refl
key_reached phone (suc steps) pci earfcn = refl

-- what `reach` computes: the steps to an NCC, a climb of so many, and KeNB* from what it reached
pub record Reaches (chain new : ChainState (List ℕ) ℕ) (active : List ℕ) (ncc pci earfcn : ℕ) (star : List ℕ) : Type 0 where
  pub steps : ℕ
  pub nh : Option (List ℕ)
  pub counted : steps ≡ steps_to chain.number ncc
  pub climbs : new ≡ climbed octet_reading chain steps
  pub reaches : nh ≡ nh_reached octet_reading chain.root chain.sync steps
  pub derives : star ≡ octet_reading.star (base_by nh active) pci earfcn

-- it is the phone's line
pub line_reached : (chain new : ChainState (List ℕ) ℕ) (active : List ℕ) (ncc pci earfcn : ℕ) (star : List ℕ)
    → Reaches chain new active ncc pci earfcn star
    → record { key = star; number = new.number } ≡ phone_line octet_reading (phone_of chain active) ncc pci earfcn
line_reached chain new active ncc pci earfcn star is =
    let key = is.derives ∙ ap (λ nh. octet_reading.star (base_by nh active) pci earfcn) is.reaches in
    (λ k. record { key = key k; number = (is.climbs k).number })
    ∙ sym (key_reached (phone_of chain active) is.steps pci earfcn)
    ∙ ap (λ steps. key_after octet_reading (phone_of chain active) steps pci earfcn) is.counted

-- and in terms
pub terms_reached : (chain new : ChainState (List ℕ) ℕ) (active : List ℕ) (ncc pci earfcn : ℕ) (star : List ℕ)
    → Reaches chain new active ncc pci earfcn star
    → (r t : Term) (n p i : ℕ)
    → chain ≡ chain_in_octets (chain_at r n p)
    → active ≡ value_of t
    → ncc ≡ ncc_of i
    → (star ≡ value_of (key_at_phone r n t p i pci earfcn).key)
    × (new ≡ chain_in_octets (chain_at r n (key_at_phone r n t p i pci earfcn).number))
terms_reached chain new active ncc pci earfcn star is r t n p i at_chain at_active at_ncc =
    let line = line_reached chain new active ncc pci earfcn star is
    ∙ (λ k. phone_line octet_reading (phone_of (at_chain k) (at_active k)) (at_ncc k) pci earfcn)
    ∙ line_in_octets r t n p i pci earfcn in
    let steps = is.counted ∙ (λ k. steps_to (at_chain k).number (at_ncc k)) in
    (ap (λ x. x.key) line, is.climbs ∙ (λ k. climbed octet_reading (at_chain k) (steps k)) ∙ climbed_to_line r n p i)

-- the steps are as many as the chain numbers from p to that of the phone's line
whole_steps : (p i : ℕ) → steps_to (ncc_of p) (ncc_of i) ≡ phone_number p (ncc_of i) - p
whole_steps p i = let far = least_from_remainder p (ncc_of i) in omega (arith, far)

-- as many derivations of NH as steps
nhs_counted : (root sync : List ℕ) (steps : ℕ) → length (nhs_made octet_reading root sync steps) ≡ steps
nhs_counted root sync zero = refl
nhs_counted root sync (suc steps) =
    let before = nhs_counted root sync steps in
    let joined = length-append (nhs_made octet_reading root sync steps) (nh_made octet_reading root (nh_after octet_reading root sync steps) ∷ []) in
    joined ∙ omega (arith, before)

-- and one of KeNB*
made_counted : (phone : PhoneKeys (List ℕ) ℕ) (steps : ℕ) (cell : Place) → length (map derived_of (handover_made octet_reading phone steps cell)) ≡ steps + 1
made_counted phone steps cell =
    let before = nhs_counted phone.root phone.sync steps in
    length-map (handover_made octet_reading phone steps cell) derived_of
    ∙ length-append (nhs_made octet_reading phone.root phone.sync steps)
    (star_made octet_reading (base_after octet_reading phone steps) cell.pci cell.earfcn ∷ [])
    ∙ ap (λ n. n + 1) before

-- what `reach` makes and tells beside it
pub record Makes (chain : ChainState (List ℕ) ℕ) (active : List ℕ) (ncc : ℕ) (cell : Place) (made : List Derived) (way : Way) : Type 0 where
  pub steps : ℕ
  pub nh : Option (List ℕ)
  pub counted : steps ≡ steps_to chain.number ncc
  pub reaches : nh ≡ nh_reached octet_reading chain.root chain.sync steps
  pub nhs : List Derived
  pub star : Derived
  pub climbs : nhs ≡ map derived_of (nhs_made octet_reading chain.root chain.sync steps)
  pub derives : star ≡ derived_of (star_made octet_reading (base_by nh active) cell.pci cell.earfcn)
  pub lists : made ≡ nhs ++ star ∷ []
  pub goes : way ≡ way_by nh

base_reached : (phone : PhoneKeys (List ℕ) ℕ) (steps : ℕ)
    → base_by (nh_reached octet_reading phone.root phone.sync steps) phone.active ≡ base_after octet_reading phone steps
base_reached phone zero = refl
base_reached phone (suc steps) = refl

way_reached : (root sync : List ℕ) (steps : ℕ) → way_by (nh_reached octet_reading root sync steps) ≡ way_after steps
way_reached root sync zero = refl
way_reached root sync (suc steps) = refl

-- it is by the steps in whole chain numbers
pub steps_reached : (chain : ChainState (List ℕ) ℕ) (active : List ℕ) (ncc : ℕ) (cell : Place)
    (made : List Derived) (way : Way)
    → Makes chain active ncc cell made way
    → (r t : Term) (n p i : ℕ)
    → chain ≡ chain_in_octets (chain_at r n p)
    → active ≡ value_of t
    → ncc ≡ ncc_of i
    → (made ≡ map derived_of (handover_made octet_reading (phone_of chain active) (phone_number p (ncc_of i) - p) cell))
    × (length made ≡ (phone_number p (ncc_of i) - p) + 1)
    × (way ≡ way_after (phone_number p (ncc_of i) - p))
steps_reached chain active ncc cell made way is r t n p i at_chain at_active at_ncc =
    let steps = is.counted ∙ (λ k. steps_to (at_chain k).number (at_ncc k)) ∙ whole_steps p i in
    let phone = phone_of chain active in
    let base = ap (λ nh. base_by nh active) is.reaches ∙ base_reached phone is.steps in
    let star = is.derives ∙ ap (λ base. derived_of (star_made octet_reading base cell.pci cell.earfcn)) base in
    let joined = map-append derived_of (nhs_made octet_reading chain.root chain.sync is.steps)
    (star_made octet_reading (base_after octet_reading phone is.steps) cell.pci cell.earfcn ∷ []) in
    let items =
    is.lists
    ∙ (λ k. is.climbs k ++ star k ∷ [])
    ∙ sym joined
    ∙ ap (λ steps. map derived_of (handover_made octet_reading phone steps cell)) steps in
    let way_is = is.goes ∙ ap way_by is.reaches ∙ way_reached chain.root chain.sync is.steps ∙ ap way_after steps in
    (items, ap length items ∙ made_counted phone (phone_number p (ncc_of i) - p) cell, way_is)
