-- What a phone makes of a key in so many NH steps, and when that is the key made (TS 33.401 7.2.8.4.4).
use Rattle.std.proofs.Common.{◌≡◌, ℕ, zero, suc, ◌+◌, ◌-◌, ◌<◌, ◌≤◌, ◌≢◌, nat_lt, Bool, true, false, refl, sym, ◌∙◌, ap, arith, add-zero, add-suc}
use Rattle.std.proofs.lemmas.Bool.Decides.{nat_tests}
use Rattle.annex_a_keys.specs.Cell.{Place}
use Rattle.key_model.specs.Term.{Term, Nh, Star}
use Rattle.key_model.specs.{Chain.nh, Chain.ncc_of, Number.chain_number, Least.least, Reading.term_reading_by, HandoverLines.nh_after, HandoverLines.steps_to}
use Rattle.key_model.proofs.LeastFacts.{least_near, least_from_remainder, eight_ahead}
use Rattle.nh_chain.specs.{Chain.ChainState, Chain.number_after, Reach.reached_after}
use Rattle.lte_properties.specs.{Origins.root_of, Origins.nas_count_of, Chains.chain_key, Chains.OnChain}

-- so many NH steps from a key
abbrev pub climb : Term → Term → ℕ → Term
climb r t zero = t
climb r t (suc steps) = Nh r (climb r t steps)

-- what a phone with this KeNB takes for a cell after so many NH steps: a KeNB* of it, or of the NH that it reaches
abbrev pub lands : Term → ℕ → Place → Term
lands t zero cell = Star t cell.pci cell.earfcn
lands t (suc steps) cell = Star (climb (root_of t) (chain_key t) (suc steps)) cell.pci cell.earfcn

pub climb-nh : (r : Term) (n p steps : ℕ) → climb r (nh r n p) steps ≡ nh r n (p + steps)
climb-nh r n p zero = ap (nh r n) (sym (add-zero p))
climb-nh r n p (suc steps) = ap (Nh r) (climb-nh r n p steps) ∙ ap (nh r n) (sym (add-suc p steps))

pub base_nh : (r : Term) (n i : ℕ) → chain_key (nh r n i) ≡ nh r n i
base_nh r n zero = refl
base_nh r n (suc i) = refl

pub root_nh : (r : Term) (n i : ℕ) → root_of (nh r n i) ≡ r
root_nh r n zero = refl
root_nh r n (suc i) = refl

-- a key and its chain_key have one root and one number
pub root_base : (t : Term) → root_of (chain_key t) ≡ root_of t
root_base (Star t pci earfcn) = root_base t
root_base other = refl

pub number_base : (t : Term) → chain_number (chain_key t) ≡ chain_number t
number_base (Star t pci earfcn) = number_base t
number_base other = refl

pub nas_count_base : (t : Term) → nas_count_of (chain_key t) ≡ nas_count_of t
nas_count_base (Star t pci earfcn) = nas_count_base t
nas_count_base other = refl

nas_count_climb : (r t : Term) (steps : ℕ) → nas_count_of (climb r t steps) ≡ nas_count_of t
nas_count_climb r t zero = refl
nas_count_climb r t (suc steps) = nas_count_climb r t steps

pub number_climb : (r t : Term) (steps : ℕ) → chain_number (climb r t steps) ≡ chain_number t + steps
number_climb r t zero = sym (add-zero (chain_number t))
number_climb r t (suc steps) = ap suc (number_climb r t steps) ∙ sym (add-suc (chain_number t) steps)

-- landing adds the steps to the number
pub number_lands : (t : Term) (steps : ℕ) (cell : Place) → chain_number (lands t steps cell) ≡ chain_number t + steps
number_lands t zero cell = sym (add-zero (chain_number t))
number_lands t (suc steps) cell = number_climb (root_of t) (chain_key t) (suc steps) ∙ ap (λ n. n + suc steps) (number_base t)

pub root_lands : (t : Term) (steps : ℕ) (cell : Place) → root_of (lands t steps cell) ≡ root_of t
root_lands t zero cell = refl
root_lands t (suc steps) cell = refl

pub base_lands : (t : Term) (steps : ℕ) (cell : Place) → chain_key (lands t steps cell) ≡ climb (root_of t) (chain_key t) steps
base_lands t zero cell = refl
base_lands t (suc steps) cell = refl

nas_count_lands : (t : Term) (steps : ℕ) (cell : Place) → nas_count_of (lands t steps cell) ≡ nas_count_of t
nas_count_lands t zero cell = refl
nas_count_lands t (suc steps) cell = nas_count_climb (root_of t) (chain_key t) (suc steps) ∙ nas_count_base t

-- a KeNB is on the chain of its KASME and NAS COUNT, at its number
abbrev pub IsKenb : Term → Type 0
IsKenb t = OnChain (root_of t) (nas_count_of t) t (chain_number t)

-- where it lands is on the chain that it is on, so many steps on
pub on_chain_lands : (r : Term) (n p : ℕ) (t : Term) (steps : ℕ) (cell : Place) → root_of t ≡ r → OnChain r n t p → OnChain r n (lands t steps cell) (p + steps)
on_chain_lands r n p t steps cell root on =
    base_lands t steps cell ∙ (λ j. climb (root j) (on j) steps) ∙ climb-nh r n p steps

pub kenb_lands : (t : Term) (steps : ℕ) (cell : Place) → IsKenb t → IsKenb (lands t steps cell)
kenb_lands t steps cell h =
    on_chain_lands (root_of t) (nas_count_of t) (chain_number t) t steps cell refl h
    ∙ (λ j. nh (sym (root_lands t steps cell) j) (sym (nas_count_lands t steps cell) j) (sym (number_lands t steps cell) j))

-- the machine's words are these
pub nh_after-climb : (same : Term → Term → _) (r t : Term) (steps : ℕ) → nh_after (term_reading_by same) r t steps ≡ climb r t steps
nh_after-climb same r t zero = refl
nh_after-climb same r t (suc steps) = ap (Nh r) (nh_after-climb same r t steps)

-- a phone's chain is that of its KeNB
abbrev pub ChainOf : Term → ChainState Term ℕ → Type 0
ChainOf t chain = record {
  root : chain.root ≡ root_of t;
  sync : chain.sync ≡ chain_key t;
  number : chain.number ≡ chain_number t;
  kenb : IsKenb t;
}

-- what such a phone reaches is where its KeNB lands
pub reached_key : (same : Term → Term → _) (t : Term) (chain : ChainState Term ℕ) (steps : ℕ) (cell : Place) → ChainOf t chain
    → (reached_after (term_reading_by same) chain t steps cell).star.key ≡ lands t steps cell
reached_key same t chain zero cell h = refl
reached_key same t chain (suc steps) cell h =
    ap (λ u. Star u cell.pci cell.earfcn)
    (nh_after-climb same chain.root chain.sync (suc steps) ∙ (λ j. climb (h.root j) (h.sync j) (suc steps)))

pub reached_number : (same : Term → Term → _) (t : Term) (chain : ChainState Term ℕ) (steps : ℕ) (cell : Place) → ChainOf t chain
    → (reached_after (term_reading_by same) chain t steps cell).star.number ≡ chain_number t + steps
reached_number same t chain zero cell h = h.number ∙ sym (add-zero (chain_number t))
reached_number same t chain (suc steps) cell h = ap (λ n. n + suc steps) h.number

number_climbed : (same : Term → Term → _) (n steps : ℕ) → number_after (term_reading_by same) n steps ≡ n + steps
number_climbed same n zero = sym (add-zero n)
number_climbed same n (suc steps) = refl

pub reached_chain : (same : Term → Term → _) (t : Term) (chain : ChainState Term ℕ) (steps : ℕ) (cell : Place) → ChainOf t chain
    → ChainOf (lands t steps cell) (reached_after (term_reading_by same) chain t steps cell).chain
reached_chain same t chain steps cell h = record {
  root = h.root ∙ sym (root_lands t steps cell);
  sync = nh_after-climb same chain.root chain.sync steps ∙ (λ j. climb (h.root j) (h.sync j) steps) ∙ sym (base_lands t steps cell);
  number = number_climbed same chain.number steps ∙ ap (λ n. n + steps) h.number ∙ sym (number_lands t steps cell);
  kenb = kenb_lands t steps cell h.kenb;
}

-- the steps of a phone with number p for the NCC of number i lead to i exactly where i is fewer than eight ahead
pub steps_near : (p i : ℕ) → p ≤ i → i - p < 8 → steps_to (ncc_of p) (ncc_of i) ≡ i - p
steps_near p i below near =
    let reached : least p (ncc_of i) 8 ≡ i = (eight_ahead p i below).1 near in
    let is : least p (ncc_of i) 8 ≡ p + steps_to (ncc_of p) (ncc_of i) = least_from_remainder p (ncc_of i) in
    omega arith

pub steps_far : (p i : ℕ) → p ≤ i → 8 ≤ i - p → p + steps_to (ncc_of p) (ncc_of i) ≢ i
steps_far p i below far e =
    let is : least p (ncc_of i) 8 ≡ p + steps_to (ncc_of p) (ncc_of i) = least_from_remainder p (ncc_of i) in
    let near : i - p < 8 = (eight_ahead p i below).0 (is ∙ e) in
    omega arith

-- and they never lead above it
pub steps_below : (p i : ℕ) → p ≤ i → p + steps_to (ncc_of p) (ncc_of i) ≤ i
steps_below p i below =
    let is : least p (ncc_of i) 8 ≡ p + steps_to (ncc_of p) (ncc_of i) = least_from_remainder p (ncc_of i) in
    let low : least p (ncc_of i) 8 < p + 8 = least_near p (ncc_of i) 8 (omega arith) in
    by_distance (nat_lt (i - p) 8) refl is low
  where
    by_distance : (b : Bool) → nat_lt (i - p) 8 ≡ b → least p (ncc_of i) 8 ≡ p + steps_to (ncc_of p) (ncc_of i) → least p (ncc_of i) 8 < p + 8
        → p + steps_to (ncc_of p) (ncc_of i) ≤ i
    by_distance true b is low =
        let near : i - p < 8 = grind (arith, nat_tests) in
        let steps = steps_near p i below near in omega arith
    by_distance false b is low =
        let far : 8 ≤ i - p = grind (arith, nat_tests) in omega arith

-- so a phone takes the key made exactly then
pub lands_near : (t : Term) (p i : ℕ) (cell : Place) → chain_number t ≡ p → p ≤ i → i - p < 8
    → lands t (steps_to (ncc_of p) (ncc_of i)) cell ≡ lands t (i - p) cell
lands_near t p i cell number below near = ap (λ steps. lands t steps cell) (steps_near p i below near)

pub lands_far : (t : Term) (p i : ℕ) (cell : Place) → chain_number t ≡ p → p ≤ i → 8 ≤ i - p
    → lands t (steps_to (ncc_of p) (ncc_of i)) cell ≢ lands t (i - p) cell
lands_far t p i cell number below far e =
    let left = number_lands t (steps_to (ncc_of p) (ncc_of i)) cell in
    let right = number_lands t (i - p) cell in
    let both : chain_number t + steps_to (ncc_of p) (ncc_of i) ≡ chain_number t + (i - p) = sym left ∙ ap chain_number e ∙ right in
    steps_far p i below far (omega arith)
