-- How far NHs are along a history.
use Rattle.std.proofs.Common.{◌≡◌, ◌≢◌, ℕ, suc, ◌+◌, ◌≤◌, ◌<◌, Bool, true, Option, None, Some, List, [], ◌∷◌, ◌++◌, ◌⊎◌, inl, inr, refl, sym, ap, subst, ◌∙◌, arith}
use Rattle.std.specs.Prelude.{◌&&◌}
use Rattle.key_model.specs.{Term.Term, Term.same_term, Number.chain_number, Value.value_of, Reading.term_reading, HandoverTable.NumberedKey}
use Rattle.trace_rules.specs.{Rules.Done, Rules.AreIn, History.History}
use Rattle.trace_keys.specs.declared.{moves.Where.Where, moves.Move.Move}
use Rattle.trace_keys.specs.declared.moves.Where.TheVariants.{Setup, Change, Took, Answer, Asked, Request, Over}
use Rattle.trace_keys.specs.declared.moves.Move.TheVariants.{Renew, Offer, Take, Switch, Ask, Prepare, Require, Arrive, Cancel, Refresh, Leave}
use Rattle.trace_keys.specs.{Net.Serving, Net.Net, Net.Sight, Moved.moved}
use Rattle.trace_keys.proofs.OneNet.{parts}
use Rattle.trace_terms.specs.Carried.{valued}
use Rattle.trace_plain.specs.Sights.{fits, has_tap, is_covered}
use Rattle.trace_order.specs.Order.{IsExact, IsTapped, Coincidence, last_by, last_nh, nh_of}
use Rattle.trace_order.specs.Known.{IsNever}
use Rattle.trace_order.specs.Reach.{ReachAt, InReach, StepsAt, StepsSeen, AllStepsSeen, steps_at, steps_seen, all_steps, steps_by, steps_from, IsNumber, IsFrom, IsTooFar}
use Rattle.trace_order.proofs.Steps.{Reaches, ReachesAt, BringsAt, StepsBy, Stepped, steps}
use Rattle.trace_order.proofs.Knowing.{fits_exact, is_tapped, roots_from, idle, in_terms}
use Rattle.trace_order.proofs.Walking.{nothing, one_pair, one_or_not, LeftBy, Leaves, along}

-- where the core may be further on, it is so too
more : (covers : Sight (List ℕ) → Bool) (low high : ℕ) (end : Option (Serving Term ℕ)) → low ≤ high → Reaches covers low end → Reaches covers high end
more covers low high None up k = tt
more covers low high (Some s) up k = record { core = k.core; within = omega (arith, up, k.within); offer = k.offer; here = k.here; target = k.target }

module _ (covers : Sight (List ℕ) → Bool) where
  -- the core is at number 1 at least, where a chain begins unseen
  abbrev Far : ℕ → Option (Serving Term ℕ) → Type 0
  Far most end = (1 ≤ most) × Reaches covers most end

  abbrev FarAt : ℕ → Where → Option (Serving Term ℕ) → Type 0
  FarAt most at end = (1 ≤ most) × ReachesAt covers most at end

  far : (most : ℕ) (o : Option (Done (Net Term ℕ) (Sight Term))) → 1 ≤ most → Stepped covers most o → Leaves Far FarAt (BringsAt covers) most o
  far most None one w = tt
  far most (Some done) one w = by_sent done.sent w
    where
      by_sent : (sent : Option (Sight Term))
          → StepsBy covers most sent done.net.serving
          → LeftBy Far FarAt (BringsAt covers) most sent done.net.serving
      by_sent None w = (one, w)
      by_sent (Some sight) w = ((one, w.0), w.1)

  dark : (most : ℕ) (end : Option (Serving Term ℕ)) (at : Where) → ¬ IsTapped covers at → FarAt most at end → Far most end
  dark most end (Setup station) hid k = (k.0, more covers 1 most end k.0 k.1)
  dark most end (Took station) hid k = (k.0, more covers 1 most end k.0 k.1)
  dark most end (Answer station) hid k = absurd (hid k.1.1)
  dark most end (Request station) hid k = absurd (hid k.1.1)
  dark most end (Asked station) hid k = absurd (hid k.1.1)
  dark most end (Change station) hid k = k
  dark most end (Over source target) hid k = k

  passed : (most : ℕ) (end : Option (Serving Term ℕ)) (at : Where) (rest : ℕ → Type 0)
      → FarAt most at end
      → ((next : ℕ) → Far next end → rest next)
      → ReachAt most at None rest
  passed most end (Setup station) rest k go = go 1 (omega arith, k.1)
  passed most end (Took station) rest k go = go 1 (omega arith, k.1)
  passed most end (Answer station) rest k go = go (suc most) (omega arith, k.1.0)
  passed most end (Request station) rest k go = go (suc most) (omega arith, k.1.0)
  passed most end (Asked station) rest k go = go (suc most) (omega arith, k.1.0)
  passed most end (Change station) rest k go = go most k
  passed most end (Over source target) rest k go = go most k

  looked : (most : ℕ) (end : Option (Serving Term ℕ)) (at : Where) (pair : NumberedKey Term ℕ) (rest : ℕ → Type 0)
      → FarAt most at end
      → BringsAt covers most at (Some pair) end
      → ((next : ℕ) → Far next end → rest next)
      → ReachAt most at (Some (record { key = value_of pair.key; number = pair.number })) rest
  looked most end (Setup station) pair rest k b go = go 1 (omega arith, k.1)
  looked most end (Took station) pair rest k b go = go 1 (omega arith, k.1)
  looked most end (Answer station) pair rest k b go =
      record { key = pair.key; value = refl; within = b.0.0; then = go (chain_number pair.key) (b.0.1, b.1) }
  looked most end (Request station) pair rest k b go =
      record { key = pair.key; value = refl; within = b.0.0; then = go (chain_number pair.key) (b.0.1, b.1) }
  looked most end (Asked station) pair rest k b go = go (suc most) (omega arith, k.1.0)
  looked most end (Change station) pair rest k b go = go most k
  looked most end (Over source target) pair rest k b go = go most k

  pub in_reach : (kasmes : List Term) (fits : Sight (List ℕ) → Sight (List ℕ) → Bool) (exact : IsExact fits) (family : List Move) (tapped : AllStepsSeen covers family) (bound left : ℕ) (net : Net Term ℕ) (moves : List Move) (capture : List (Sight (List ℕ))) (most : ℕ)
      → AreIn moves family
      → (1 ≤ most) × Reaches covers most net.serving
      → History (valued term_reading value_of kasmes) fits covers bound left net moves capture
      → InReach most capture
  in_reach kasmes fits exact family tapped =
      along Far FarAt (BringsAt covers) ReachAt InReach covers (λ most. tt) (λ most sight capture reach. reach) dark passed looked kasmes fits exact family
      (λ most net move i k. far most (moved term_reading kasmes net move) k.0 (steps covers kasmes most net move (tapped move i) k.1))

-- the most that the core may be at is known by the last NH and the steps since
abbrev Knows : Option (NumberedKey (List ℕ) ℕ) → ℕ → ℕ → Type 0
Knows None steps most = most ≤ 1 + steps
Knows (Some pair) steps most = (key : Term) × (value_of key ≡ pair.key) × (most ≤ chain_number key + steps)

one_step : (last : Option (NumberedKey (List ℕ) ℕ)) (steps most : ℕ) → Knows last steps most → Knows last (suc steps) (suc most)
one_step None steps most k = omega (arith, k)
one_step (Some pair) steps most k = (k.0, k.1, omega (arith, k.2))

pass : (most steps : ℕ) (last : Option (NumberedKey (List ℕ) ℕ)) (at : Where) (pair : Option (NumberedKey (List ℕ) ℕ)) (rest : ℕ → Type 0) (P : Type 0)
    → Knows last steps most
    → ReachAt most at pair rest
    → ((next : ℕ) → Knows (last_by last at pair) (steps_by steps at pair) next → rest next → P)
    → P
pass most steps last (Setup station) pair rest P k is go = go 1 (omega arith) is
pass most steps last (Took station) pair rest P k is go = go 1 (omega arith) is
pass most steps last (Answer station) (Some pair) rest P k is go = go (chain_number is.key) (is.key, is.value, omega arith) is.then
pass most steps last (Request station) (Some pair) rest P k is go = go (chain_number is.key) (is.key, is.value, omega arith) is.then
pass most steps last (Answer station) None rest P k is go = go (suc most) (one_step last steps most k) is
pass most steps last (Request station) None rest P k is go = go (suc most) (one_step last steps most k) is
pass most steps last (Asked station) pair rest P k is go = go (suc most) (one_step last steps most k) is
pass most steps last (Change station) pair rest P k is go = go most k is
pass most steps last (Over source target) pair rest P k is go = go most k is

-- the last message's NH, and where the core may be before it
pub record Comes (last : Option (NumberedKey (List ℕ) ℕ)) (steps : ℕ) (next : NumberedKey (List ℕ) ℕ) : Type 0 where
  pub most : ℕ
  pub knows : Knows last steps most
  pub key : Term
  pub value : value_of key ≡ next.key
  pub within : chain_number key ≤ most + 1

comes_at : (most steps : ℕ) (last : Option (NumberedKey (List ℕ) ℕ)) (at : Where) (pair : Option (NumberedKey (List ℕ) ℕ)) (next : NumberedKey (List ℕ) ℕ) (rest : ℕ → Type 0)
    → nh_of at pair ≡ Some next
    → Knows last steps most
    → ReachAt most at pair rest
    → Comes last steps next
comes_at most steps last (Answer station) (Some pair) next rest e k is =
    subst (Comes last steps) (one_pair pair next e) (record { most = most; knows = k; key = is.key; value = is.value; within = is.within })
comes_at most steps last (Request station) (Some pair) next rest e k is =
    subst (Comes last steps) (one_pair pair next e) (record { most = most; knows = k; key = is.key; value = is.value; within = is.within })
comes_at most steps last (Answer station) None next rest e k is = nothing next e
comes_at most steps last (Request station) None next rest e k is = nothing next e
comes_at most steps last (Setup station) pair next rest e k is = nothing next e
comes_at most steps last (Took station) pair next rest e k is = nothing next e
comes_at most steps last (Change station) pair next rest e k is = nothing next e
comes_at most steps last (Asked station) pair next rest e k is = nothing next e
comes_at most steps last (Over source target) pair next rest e k is = nothing next e

comes : (capture : List (Sight (List ℕ))) (sight : Sight (List ℕ)) (most steps : ℕ) (last : Option (NumberedKey (List ℕ) ℕ)) (next : NumberedKey (List ℕ) ℕ)
    → nh_of sight.at sight.pair ≡ Some next
    → Knows last steps most
    → InReach most (capture ++ sight ∷ [])
    → Comes (last_nh last capture) (steps_from steps capture) next
comes [] sight most steps last next e k reach = comes_at most steps last sight.at sight.pair next (λ m. InReach m []) e k reach
comes (x ∷ capture) sight most steps last next e k reach =
    pass most steps last x.at x.pair (λ m. InReach m (capture ++ sight ∷ [])) (Comes (last_nh (last_by last x.at x.pair) capture) (steps_from (steps_by steps x.at x.pair) capture) next) k reach
    (λ m knows rest. comes capture sight m (steps_by steps x.at x.pair) (last_by last x.at x.pair) next e knows rest)

-- a key of that value has that number, or two terms have one value
same_number : (key : Term) (pair : NumberedKey (List ℕ) ℕ) (number : ℕ) → value_of key ≡ pair.key → IsNumber pair number → (chain_number key ≡ number) ⊎ Coincidence
same_number key pair number value is = by_case (one_or_not key is.key (same_term key is.key) refl)
  where
    by_case : (key ≡ is.key) ⊎ (key ≢ is.key) → (chain_number key ≡ number) ⊎ Coincidence
    by_case (inl same) = inl (ap chain_number same ∙ is.is)
    by_case (inr differ) = inr (record { one = key; other = is.key; differ = differ; same = value ∙ sym is.value })

most_is : (last : Option (NumberedKey (List ℕ) ℕ)) (steps most from : ℕ) → Knows last steps most → IsFrom last from → (most ≤ from + steps) ⊎ Coincidence
most_is None steps most from k is = inl (omega (arith, k, is))
most_is (Some pair) steps most from k is = by_case (same_number k.0 pair from k.1 is)
  where
    by_case : (chain_number k.0 ≡ from) ⊎ Coincidence → (most ≤ from + steps) ⊎ Coincidence
    by_case (inl same) = inl (omega (arith, same, k.2))
    by_case (inr two) = inr two

beyond : (last : Option (NumberedKey (List ℕ) ℕ)) (steps from to : ℕ) (next : NumberedKey (List ℕ) ℕ)
    → IsFrom last from
    → IsNumber next to
    → from + steps + 1 < to
    → Comes last steps next
    → Coincidence
beyond last steps from to next is_from is_to far c = by_both (most_is last steps c.most from c.knows is_from) (same_number c.key next to c.value is_to)
  where
    by_both : (c.most ≤ from + steps) ⊎ Coincidence → (chain_number c.key ≡ to) ⊎ Coincidence → Coincidence
    by_both (inr two) other = two
    by_both (inl most) (inr two) = two
    by_both (inl most) (inl same) = let no : ⊥ = omega (arith, most, same, far, c.within) in absurd no

-- the taps of each move
taps_at : (covered : List Where) (station : ℕ) → steps_at covered station ≡ true → StepsAt (is_covered covered) station
taps_at covered station h =
    let p = parts (has_tap covered (Answer station)) (has_tap covered (Asked station) && has_tap covered (Request station)) h in
    let q = parts (has_tap covered (Asked station)) (has_tap covered (Request station)) p.1 in
    (is_tapped covered (Answer station) p.0, is_tapped covered (Asked station) q.0, is_tapped covered (Request station) q.1)

taps_by : (covered : List Where) (move : Move) → steps_seen covered move ≡ true → StepsSeen (is_covered covered) move
taps_by covered (Renew kasme count station cell early taken) h = taps_at covered station h
taps_by covered (Prepare station cell goes) h = taps_at covered station h
taps_by covered (Require station cell goes) h = taps_at covered station h
taps_by covered (Offer kasme count early) h = tt
taps_by covered Take h = tt
taps_by covered Switch h = tt
taps_by covered (Ask what) h = tt
taps_by covered Arrive h = tt
taps_by covered Cancel h = tt
taps_by covered (Refresh station cell) h = tt
taps_by covered Leave h = tt

all_taps : (covered : List Where) (family : List Move) → all_steps covered family ≡ true → AllStepsSeen (is_covered covered) family
all_taps covered [] h move i = absurd i
all_taps covered (first ∷ family) h move (inl e) =
    subst (StepsSeen (is_covered covered)) e (taps_by covered first (parts (steps_seen covered first) (all_steps covered family) h).0)
all_taps covered (first ∷ family) h move (inr i) =
    all_taps covered family (parts (steps_seen covered first) (all_steps covered family) h).1 move i

pub never_beyond : (kasmes : List (List ℕ)) (covered : List Where) (family : List Move) (capture : List (Sight (List ℕ))) (sight : Sight (List ℕ))
    → all_steps covered family ≡ true
    → IsTooFar capture sight
    → IsNever kasmes covered family capture sight
never_beyond kasmes covered family capture sight seen far =
    in_terms kasmes covered family capture sight
    (λ bound left kasme count moves fam h.
    beyond (last_nh None capture) (steps_from 0 capture) far.from far.to far.next far.is_from far.is_to far.far
    (comes capture sight 1 0 None far.next far.is_next (omega arith)
    (in_reach (is_covered covered) (roots_from 0 kasmes) fits fits_exact family (all_taps covered family seen) bound left (idle kasme count) moves _ 1 fam (omega arith, tt) h)))
