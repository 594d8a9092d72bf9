-- A fleet that takes an event, as its caller sees it before.
use Rattle.std.proofs.Common.{◌≡◌, refl, sym, ap, subst, ◌∙◌, ℕ, zero, suc, ◌<◌, ◌≤◌, List, [], ◌∷◌, ◌++◌, length, drop, set, Option, Some, None, Result, Ok, Err}
use Rattle.std.specs.{Prelude.slice_get, Option.option_map, List.AllByRecursion as AllOf}
use Rattle.lte_events.specs.{declared.events.Event.Event, declared.lines.Line.Line, declared.setups.Setup.Setup}
use Rattle.key_terms.specs.declared.proof.Proof.{Proof}
use Rattle.lte_world.specs.declared.faults.WorldFault.TheVariants as world_fault
use Rattle.lte_world.specs.Whole.{Whole}
use Rattle.fleet_world.specs.{declared.faults.FleetFault.FleetFault, declared.lines.FleetLine.FleetLine, Steps.Leaves, Steps.world_after}
use Rattle.fleet_world.specs.declared.faults.FleetFault.TheVariants as fault
use Rattle.fleet_world.specs.declared.lines.FleetLine.TheVariants as line
use Rattle.fleet_world.specs.Answers.{answer, taken_by, crossing, cross_of, owns_of}
use Rattle.fleet_world.specs.Fleets.{Fleeted, CanTake, Stands, StandsUnless, answer_of, unless_over, most_phones}
use Rattle.fleet_world.specs.Meeting.{Meeting, meeting_from, ladder_at}
use Rattle.fleet_world.specs.Worlds.{Goes, ladders_in, others_in, taken_in, TakesAt, CanTakeAt}
use Rattle.fleet_world.proofs.Standing.{go, taken_is, can_take, answer_taken, stands_taken, answer_coincidence, go_after, few_after, low_after, crossing_is, answer_of_line, answer_cross, stands_line, new_is}
use Rattle.fleet_world.proofs.BeginsAndGoesOn.{stands_of}

-- what stands at a place, put there again
same_put : {A : Type 0} (xs : List A) (k : ℕ) (x : A) → slice_get xs k ≡ Some x → set xs k x ≡ xs
same_put [] k x at = refl
same_put (y ∷ xs) zero x at = let one : y ≡ x = cc in ap (λ z. z ∷ xs) (sym one)
same_put (y ∷ xs) (suc k) x at = ap (λ l. y ∷ l) (same_put xs k x at)

-- what the search for a key of another phone, from this row on, found in these worlds
abbrev pub Found : ℕ → ℕ → Option FleetFault → List Whole → Type 0
Found p n found worlds = found ≡ option_map (cross_of p) (meeting_from (others_in p worlds) n (drop n (ladder_at (ladders_in worlds) p)))

no_meeting : (p : ℕ) (m : Option Meeting) → option_map (cross_of p) m ≡ None → m ≡ None
no_meeting p None is = refl
no_meeting p (Some x) is = absurd cc

a_meeting : (p : ℕ) (m : Option Meeting) (f : FleetFault) → option_map (cross_of p) m ≡ Some f → (x : Meeting) × (m ≡ Some x) × (f ≡ cross_of p x)
a_meeting p None f is = absurd cc
a_meeting p (Some x) f is = let one : cross_of p x ≡ f = cc in (x, refl, sym one)

-- a fleet that stands, as its caller sees it, and an event that a phone of it can take
pub record AtEvent (over : Option FleetFault) (setup : Setup) (worlds : List Whole) (journal : List (ℕ × Event)) (now : Fleeted) (p : ℕ) (e : Event)
    : Type 0 where
  pub view : record { setup = setup; worlds = worlds; journal = journal; over = over } ≡ now
  pub none : over ≡ None
  pub stands : StandsUnless over setup worlds journal
  pub can : CanTake now p e

module _ {over : Option FleetFault} {setup : Setup} {worlds : List Whole} {journal : List (ℕ × Event)} {now : Fleeted} {p : ℕ} {e : Event}
    (b : AtEvent over setup worlds journal now p e) where
  abbrev v : Fleeted
  v = record { setup = setup; worlds = worlds; journal = journal; over = over }

  h : Stands setup worlds journal
  h = stands_of over setup worlds journal b.none b.stands

  here : CanTake v p e
  here = subst (λ x. CanTake x p e) (sym b.view) b.can

  pub goes : AllOf Goes worlds
  goes = go setup worlds journal h

  pub few : length worlds ≤ most_phones
  few = h.few

  pub low : p < length worlds
  low = here.phone

  pub can_take_at : CanTakeAt worlds p e
  can_take_at = can_take setup worlds journal h p e here.phone here.can here.few

  -- the answer is that of the definition
  answers : answer_of now p e ≡ answer setup (owns_of setup (length worlds) journal) p e
  answers = ap (λ x. answer_of x p e) (sym b.view) ∙ ap (λ o. unless_over o (answer setup (owns_of setup (length worlds) journal) p e)) b.none

  left : (after : List Whole) (result : Result FleetLine FleetFault) → Leaves v after p e result → Leaves now after p e result
  left after result is = subst (λ x. Leaves x after p e result) b.view is

  -- Taken
  module _ {q : ℕ} (taken : taken_in worlds p e ≡ Some q) where
    pub says_taken : Ok (line.Taken q) ≡ answer_of now p e
    says_taken = sym (answers ∙ answer_taken setup worlds journal h p e here.phone here.can q (sym (taken_is setup worlds journal h p e) ∙ taken))

    pub keeps_taken : {j : List (ℕ × Event)} → j ≡ journal ++ (p, e) ∷ [] → StandsUnless over setup worlds j
    keeps_taken {j = j} is =
        subst (λ o. StandsUnless o setup worlds j) (sym b.none)
        (subst (Stands setup worlds) (sym is)
        (stands_taken setup worlds journal h p e here.phone here.can q (sym (taken_is setup worlds journal h p e) ∙ taken)))

    pub leaves_taken : Leaves now worlds p e (Ok (line.Taken q))
    leaves_taken = left worlds (Ok (line.Taken q)) refl

  -- no other phone has its root
  free : taken_in worlds p e ≡ None → taken_by setup (owns_of setup (length worlds) journal) p e ≡ None
  free untaken = sym (taken_is setup worlds journal h p e) ∙ untaken

  -- a coincidence of its own, or no memory
  module _ (untaken : taken_in worlds p e ≡ None) {after : List Whole} where
    pub says_coincidence : {proof : Proof}
        → TakesAt worlds after p e (Err (world_fault.Chance proof))
        → Err (fault.Chance p proof) ≡ answer_of now p e
    says_coincidence {proof = proof} t = sym (answers ∙ answer_coincidence setup worlds journal h p e here.phone here.can after proof (free untaken) t)

    pub leaves_coincidence : {proof : Proof}
        → TakesAt worlds after p e (Err (world_fault.Chance proof))
        → Leaves now after p e (Err (fault.Chance p proof))
    leaves_coincidence {proof = proof} t = left after (Err (fault.Chance p proof)) (t.new, t.put)

    pub same_worlds : TakesAt worlds after p e (Err world_fault.Memory) → after ≡ worlds
    same_worlds t = t.put ∙ ap (set worlds p) t.takes ∙ same_put worlds p t.old t.stands

    leaves_are : TakesAt worlds after p e (Err world_fault.Memory)
        → (j : List (ℕ × Event)) → j ≡ journal → record { setup = setup; worlds = after; journal = j; over = over } ≡ v
    leaves_are t j is = let ws = same_worlds t in λ k. record { setup = setup; worlds = ws k; journal = is k; over = over }

    pub keeps_memory : TakesAt worlds after p e (Err world_fault.Memory) → (j : List (ℕ × Event)) → j ≡ journal → StandsUnless over setup after j
    keeps_memory t j is = subst (λ (x : Fleeted). StandsUnless over setup x.worlds x.journal) (sym (leaves_are t j is)) b.stands

    pub memory_is : TakesAt worlds after p e (Err world_fault.Memory)
        → (j : List (ℕ × Event)) → j ≡ journal → record { setup = setup; worlds = after; journal = j; over = over } ≡ now
    memory_is t j is = leaves_are t j is ∙ b.view

    pub leaves_memory : TakesAt worlds after p e (Err world_fault.Memory) → Leaves now after p e (Err fault.Memory)
    leaves_memory t = left after (Err fault.Memory) (same_worlds t)

    -- a line
    module _ {r : ℕ × Line} (t : TakesAt worlds after p e (Ok r)) where
      pub goes_then : AllOf Goes after
      goes_then = go_after setup worlds journal h p e here.phone here.can after r t (free untaken)

      pub few_then : length after ≤ most_phones
      few_then = few_after setup worlds journal h p e here.phone here.can after r t (free untaken)

      pub low_then : p < length after
      low_then = low_after setup worlds journal h p e here.phone here.can after r t (free untaken)

      put_is : after ≡ set worlds p (world_after v p e)
      put_is = t.put ∙ ap (set worlds p) (new_is setup worlds journal h p e here.phone here.can after r t (free untaken))

      -- what the search for a key of another phone found
      module _ {found : Option FleetFault} (search_is : Found p r.0 found after) where
        meets : found ≡ option_map (cross_of p) (crossing setup (owns_of setup (length worlds) journal) p e)
        meets = search_is ∙ ap (option_map (cross_of p)) (crossing_is setup worlds journal h p e here.phone here.can after r t (free untaken))

        alone : found ≡ None → crossing setup (owns_of setup (length worlds) journal) p e ≡ None
        alone is = no_meeting p (crossing setup (owns_of setup (length worlds) journal) p e) (sym meets ∙ is)

        pub says_line : found ≡ None → Ok (line.Of p r.1) ≡ answer_of now p e
        says_line is = sym (answers ∙ answer_of_line setup worlds journal h p e here.phone here.can after r t (free untaken) (alone is))

        pub keeps_line : found ≡ None → (j : List (ℕ × Event)) → j ≡ journal ++ (p, e) ∷ [] → StandsUnless over setup after j
        keeps_line is j longer =
            subst (λ o. StandsUnless o setup after j) (sym b.none)
            (subst (Stands setup after) (sym longer) (stands_line setup worlds journal h p e here.phone here.can after r t (free untaken) (alone is)))

        pub leaves_line : Leaves now after p e (Ok (line.Of p r.1))
        leaves_line = left after (Ok (line.Of p r.1)) put_is

        pub says_cross : (f : FleetFault) → found ≡ Some f → Err f ≡ answer_of now p e
        says_cross f is =
            let at = a_meeting p (crossing setup (owns_of setup (length worlds) journal) p e) f (sym meets ∙ is) in
            ap Err at.2 ∙ sym (answers ∙ answer_cross setup worlds journal h p e here.phone here.can after r t (free untaken) at.0 at.1)

        pub leaves_cross : (f : FleetFault) → found ≡ Some f → Leaves now after p e (Err f)
        leaves_cross f is =
            let at = a_meeting p (crossing setup (owns_of setup (length worlds) journal) p e) f (sym meets ∙ is) in
            subst (λ x. Leaves now after p e (Err x)) (sym at.2) (left after (Err (cross_of p at.0)) put_is)
