-- What each move sends is a key of the kind of its message, with its NCC, for a cell of its target.
use Rattle.std.proofs.Common.{◌≡◌, ℕ, suc, ◌+◌, Bool, true, false, Option, None, Some, List, [], ◌∷◌, inl, inr, refl, sym, ap, ◌∙◌, arith}
use Rattle.std.specs.Prelude.{slice_get, if◌then◌else◌, ◌&&◌, ◌||◌, not, nat_eq, nat_lt}
use Rattle.std.specs.List.{list_any}
use Rattle.std.proofs.lemmas.Bool.Decides.{Decides-eqb}
use Rattle.annex_a_keys.specs.Cell.{Place}
use Rattle.key_model.specs.{Term.Term, Term.Kenb, Term.Nh, Chain.ncc_of, Number.chain_number, Reading.term_reading, HandoverTable.NumberedKey}
use Rattle.nh_chain.specs.Chain.{ChainState, stepped}
use Rattle.nh_chain.specs.Station.{opened, base_of, pair_after, restored_if}
use Rattle.trace_rules.specs.Rules.{Done, IsIn}
use Rattle.trace_keys.specs.declared.{moves.Where.Where, moves.Move.Move, moves.Unanswered.Unanswered}
use Rattle.trace_keys.specs.declared.moves.Unanswered.TheVariants.{Refused, Lost, Given}
use Rattle.trace_keys.specs.declared.moves.Move.TheVariants.{Renew, Offer, Take, Switch, Ask, Prepare, Require, Arrive, Cancel, Refresh, Leave}
use Rattle.trace_keys.specs.Net.{Target, Offer as OfferOf, Serving, Net, Sight}
use Rattle.nas_count.specs.Estimate.{nas_count_limit}
use Rattle.trace_keys.specs.Moved.{is_fresh, chain_of, target_of, renewed, begins, offered, offers, took, taken_on, unanswered, may_come, prepared, required, arrived, cancelled, refreshed, moved_in, moved}
use Rattle.trace_order.specs.Kinds.{shape_of, is_for, has_cell, is_nh, may_carry}
use Rattle.trace_order.proofs.Walking.{LeftBy, Leaves, leaves_if, leaves}

-- a key has the number that is written beside it
abbrev pub IsNumbered : NumberedKey Term ℕ → Type 0
IsNumbered key = key.number ≡ chain_number key.key

abbrev pub NumberedIf : Option (NumberedKey Term ℕ) → Type 0
NumberedIf None = Unit {0}
NumberedIf (Some key) = IsNumbered key

abbrev pub ChainIs : ChainState Term ℕ → Type 0
ChainIs core = core.number ≡ chain_number core.sync

abbrev pub TargetIs : Option (Target Term ℕ) → Type 0
TargetIs None = Unit {0}
TargetIs (Some target) = IsNumbered target.star × NumberedIf target.spent

abbrev pub OfferIs : Option (OfferOf Term ℕ) → Type 0
OfferIs None = Unit {0}
OfferIs (Some offer) = (chain_number offer.kenb ≡ 0) × ChainIs offer.core

pub record HoldsIn (s : Serving Term ℕ) : Type 0 where
  pub core : ChainIs s.core
  pub held : s.key.number ≡ chain_number s.key.kenb
  pub pair : NumberedIf s.key.pair
  pub target : TargetIs s.target
  pub offer : OfferIs s.offer

abbrev pub Holds : Option (Serving Term ℕ) → Type 0
Holds None = Unit {0}
Holds (Some s) = HoldsIn s

pub step_is : (core : ChainState Term ℕ) → ChainIs core → ChainIs (stepped term_reading core)
step_is core k = omega (arith, k)

pub chain_is : (root : Term) (count : ℕ) (early : Bool) → ChainIs (chain_of term_reading root (Kenb root count) early)
chain_is root count false = refl
chain_is root count true = omega arith

base_is : (pair : Option (NumberedKey Term ℕ)) (kenb : Term) (number : ℕ)
    → NumberedIf pair
    → number ≡ chain_number kenb
    → IsNumbered (base_of pair kenb number)
base_is None kenb number p k = k
base_is (Some pair) kenb number p k = p

back_is : (pair : Option (NumberedKey Term ℕ)) (back : NumberedKey Term ℕ) → NumberedIf pair → IsNumbered back → NumberedIf (pair_after pair back)
back_is None back p k = k
back_is (Some newer) back p k = p

-- tests that hold
is_same : (a b : ℕ) → a ≡ b → nat_eq a b ≡ true
is_same a b e = (Decides-eqb a b).1 e

both : (a b : Bool) → a ≡ true → b ≡ true → (a && b) ≡ true
both true b e f = f
both false b e f = let no : ⊥ = cc in absurd no

first_of : (a b : Bool) → a ≡ true → (a || b) ≡ true
first_of true b e = refl
first_of false b e = let no : ⊥ = cc in absurd no

second_of : (a b : Bool) → b ≡ true → (a || b) ≡ true
second_of true b e = refl
second_of false b e = e

any_is : (test : Move → Bool) (family : List Move) (move : Move) → IsIn move family → test move ≡ true → list_any test family ≡ true
any_is test [] move i e = absurd i
any_is test (first ∷ family) move (inl same) e = first_of (test first) (list_any test family) (ap test same ∙ e)
any_is test (first ∷ family) move (inr i) e = second_of (test first) (list_any test family) (any_is test family move i e)

is_for_it : (station : ℕ) (cell : Place) (goes : Bool) → is_for station cell (Prepare station cell goes) ≡ true
is_for_it station cell goes =
    both (nat_eq station station) (nat_eq cell.pci cell.pci && nat_eq cell.earfcn cell.earfcn) (is_same station station refl)
    (both (nat_eq cell.pci cell.pci) (nat_eq cell.earfcn cell.earfcn) (is_same cell.pci cell.pci refl) (is_same cell.earfcn cell.earfcn refl))

not_zero : (n : ℕ) → not (nat_eq (suc n) 0) ≡ true
not_zero n = by_case (nat_eq (suc n) 0) refl
  where
    by_case : (b : Bool) → nat_eq (suc n) 0 ≡ b → not b ≡ true
    by_case false e = refl
    by_case true e = let same : suc n ≡ 0 = (Decides-eqb (suc n) 0).0 e in let none : ⊥ = omega (arith, same) in absurd none

nh_is : (root sync : Term) (number : ℕ) → number ≡ suc (chain_number sync) → is_nh (shape_of (Nh root sync)) (ncc_of number) ≡ true
nh_is root sync number e =
    both (not (nat_eq (suc (chain_number sync)) 0)) (nat_eq (ncc_of number) (ncc_of (suc (chain_number sync)))) (not_zero (chain_number sync))
    (is_same (ncc_of number) (ncc_of (suc (chain_number sync))) (ap ncc_of e))

module _ (family : List Move) where
  -- a key may go there
  abbrev pub MayAt : Where → Option (NumberedKey Term ℕ) → Type 0
  MayAt at None = Unit {0}
  MayAt at (Some pair) = may_carry family at (shape_of pair.key) pair.number ≡ true

  abbrev pub Keeps : Unit {0} → Option (Serving Term ℕ) → Type 0
  Keeps u end = Holds end

  abbrev pub After : Unit {0} → Where → Option (Serving Term ℕ) → Type 0
  After u at end = Holds end

  abbrev pub Brings : Unit {0} → Where → Option (NumberedKey Term ℕ) → Option (Serving Term ℕ) → Type 0
  Brings u at pair end = MayAt at pair

  abbrev pub Sends : Option (Done (Net Term ℕ) (Sight Term)) → Type 0
  Sends = Leaves Keeps After Brings tt

  sends_if : (b : Bool) (done : Done (Net Term ℕ) (Sight Term)) → LeftBy Keeps After Brings tt done.sent done.net.serving → Sends (if b then Some done else None)
  sends_if = leaves_if Keeps After Brings tt

  sends_renewed : (root : Option Term) (net : Net Term ℕ) (kasme count station : ℕ) (cell : Place) (early taken : Bool)
      → Sends (renewed term_reading root net kasme count station cell early taken)
  sends_renewed None net kasme count station cell early taken = tt
  sends_renewed (Some root) net kasme count station cell early taken =
      sends_if (is_fresh net kasme count) (begins term_reading root kasme count station cell early taken)
      ((record { core = chain_is root count early; held = refl; pair = tt; target = tt; offer = tt }), refl)

  sends_offered : (root : Option Term) (net : Net Term ℕ) (s : Serving Term ℕ) (kasme count : ℕ) (early : Bool)
      → HoldsIn s
      → Sends (offered term_reading root net s kasme count early)
  sends_offered None net s kasme count early k = tt
  sends_offered (Some root) net s kasme count early k =
      sends_if (is_fresh net kasme count) (offers term_reading root net s kasme count early)
      ((record { core = k.core; held = k.held; pair = k.pair; target = k.target; offer = (refl, chain_is root count early) }), refl)

  sends_took : (s : Serving Term ℕ) (offer : Option (OfferOf Term ℕ)) → OfferIs offer → HoldsIn s → Sends (took term_reading s offer)
  sends_took s None o k = tt
  sends_took s (Some offer) o k =
      sends_if (nat_lt offer.count nas_count_limit) (taken_on term_reading s offer)
      ((record { core = o.1; held = sym o.0; pair = tt; target = k.target; offer = tt }), tt)

  holds_unanswered : (s : Serving Term ℕ) (what : Unanswered) → HoldsIn s → HoldsIn (unanswered term_reading s what)
  holds_unanswered s Refused k = k
  holds_unanswered s Lost k = record { core = step_is s.core k.core; held = k.held; pair = k.pair; target = k.target; offer = k.offer }
  holds_unanswered s Given k =
      record { core = step_is s.core k.core; held = k.held; pair = step_is s.core k.core; target = k.target; offer = k.offer }

  target_is : (goes : Bool) (before : Option (Target Term ℕ)) (station : ℕ) (cell : Place) (star : NumberedKey Term ℕ) (spent : Option (NumberedKey Term ℕ))
      → IsNumbered star × NumberedIf spent
      → TargetIs before
      → TargetIs (target_of goes before (record { station = station; cell = cell; star = star; spent = spent }))
  target_is true before station cell star spent new old = new
  target_is false before station cell star spent new old = old

  sends_prepared : (net : Net Term ℕ) (s : Serving Term ℕ) (station : ℕ) (cell : Place) (goes : Bool)
      → IsIn (Prepare station cell goes) family
      → HoldsIn s
      → Sends (Some (prepared term_reading net s (opened term_reading s.key cell) station cell goes))
  sends_prepared net s station cell goes i k =
      let base = base_is s.key.pair s.key.kenb s.key.number k.pair k.held in
      let ncc : nat_eq (ncc_of (base_of s.key.pair s.key.kenb s.key.number).number) (ncc_of (chain_number (base_of s.key.pair s.key.kenb s.key.number).key)) ≡ true =
      is_same (ncc_of (base_of s.key.pair s.key.kenb s.key.number).number) (ncc_of (chain_number (base_of s.key.pair s.key.kenb s.key.number).key)) (ap ncc_of base) in
      let there : has_cell family station (Some cell) ≡ true = any_is (is_for station cell) family (Prepare station cell goes) i (is_for_it station cell goes) in (
        (record { core = k.core; held = k.held; pair = tt; target = target_is goes s.target station cell _ _ (base, k.pair) k.target; offer = k.offer }),
        both (has_cell family station (Some cell)) _ there ncc,
      )

  sends_required : (net : Net Term ℕ) (s : Serving Term ℕ) (station : ℕ) (cell : Place) (goes : Bool)
      → HoldsIn s
      → Sends (Some (required term_reading net s station cell goes))
  sends_required net s station cell goes k =
      let step = step_is s.core k.core in (
        (record { core = step; held = k.held; pair = k.pair; target = target_is goes s.target station cell _ _ (step, tt) k.target; offer = k.offer }),
        nh_is s.core.root s.core.sync (s.core.number + 1) step,
      )

  sends_arrived : (net : Net Term ℕ) (s : Serving Term ℕ) (target : Option (Target Term ℕ)) → TargetIs target → HoldsIn s → Sends (arrived net s target)
  sends_arrived net s None t k = tt
  sends_arrived net s (Some target) t k = record { core = k.core; held = t.0; pair = tt; target = tt; offer = tt }

  restored_is : (s : Serving Term ℕ) (spent : Option (NumberedKey Term ℕ)) → NumberedIf spent → HoldsIn s
      → HoldsIn (record s { key = restored_if s.key spent; target = None })
  restored_is s None t k = record { core = k.core; held = k.held; pair = k.pair; target = tt; offer = k.offer }
  restored_is s (Some spent) t k = record { core = k.core; held = k.held; pair = back_is s.key.pair spent k.pair t; target = tt; offer = k.offer }

  sends_cancelled : (net : Net Term ℕ) (s : Serving Term ℕ) (target : Option (Target Term ℕ)) → TargetIs target → HoldsIn s → Sends (cancelled net s target)
  sends_cancelled net s None t k = tt
  sends_cancelled net s (Some target) t k = restored_is s target.spent t.1 k

  sends_in : (kasmes : List Term) (net : Net Term ℕ) (s : Serving Term ℕ) (move : Move)
      → IsIn move family
      → HoldsIn s
      → Sends (moved_in term_reading kasmes net s move)
  sends_in kasmes net s (Renew kasme count station cell early taken) i k = tt
  sends_in kasmes net s (Offer kasme count early) i k = sends_offered (slice_get kasmes kasme) net s kasme count early k
  sends_in kasmes net s Take i k = sends_took s s.offer k.offer k
  sends_in kasmes net s Switch i k =
      let step = step_is s.core k.core in (
        (record { core = step; held = k.held; pair = step; target = k.target; offer = k.offer }),
        nh_is s.core.root s.core.sync (s.core.number + 1) step,
      )
  sends_in kasmes net s (Ask what) i k = (holds_unanswered s what k, tt)
  sends_in kasmes net s (Prepare station cell goes) i k =
      sends_if (not (nat_eq station s.station) && may_come goes s.target)
      (prepared term_reading net s (opened term_reading s.key cell) station cell goes) (sends_prepared net s station cell goes i k)
  sends_in kasmes net s (Require station cell goes) i k =
      sends_if (may_come goes s.target) (required term_reading net s station cell goes) (sends_required net s station cell goes k)
  sends_in kasmes net s Arrive i k = sends_arrived net s s.target k.target k
  sends_in kasmes net s Cancel i k = sends_cancelled net s s.target k.target k
  sends_in kasmes net s (Refresh station cell) i k =
      sends_if (nat_eq station s.station) (refreshed net s (opened term_reading s.key cell) cell)
      (record { core = k.core; held = base_is s.key.pair s.key.kenb s.key.number k.pair k.held; pair = tt; target = tt; offer = k.offer })
  sends_in kasmes net s Leave i k = tt

  pub sends : (kasmes : List Term) (net : Net Term ℕ) (move : Move)
      → IsIn move family
      → Holds net.serving
      → Sends (moved term_reading kasmes net move)
  sends kasmes =
      leaves Keeps After Brings (λ move. IsIn move family) kasmes tt (λ root net kasme count station cell early taken i. sends_renewed root net kasme count station cell early taken) (sends_in kasmes)
