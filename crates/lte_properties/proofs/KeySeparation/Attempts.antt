-- The attempts of a station are numbered apart: its next number rises, and an attempt draws it.
use Rattle.std.proofs.Common.{◌≡◌, refl, sym, ◌∙◌, subst, ℕ, ◌+◌, ◌≤◌, ◌<◌, ◌==◌, Bool, false, List, [], ◌∷◌, ◌++◌, Option, Some, None, arith}
use Rattle.std.proofs.lemmas.Bool.Decides.{nat_tests}
use Rattle.lte_events.specs.{declared.acts.StationAct.StationAct, declared.events.Event.Event, declared.setups.Setup.Setup, declared.setups.StationSetup.StationSetup, Site.Site}
use Rattle.key_model.specs.{Term.Term, Reading.term_reading_by}
use Rattle.s1x2_rec.specs.Fields.{Fields}
use Rattle.lte_machine.specs.{Bearers.Which, Wire.KeyUse, Wire.Outgoing, Opening.Opening, Opening.Outcome, Reply.Tried, Reply.Reply, StationKeys.station_does, Run.stations_of, Run.first_world}
use Rattle.lte_machine.specs.StationState.{Station, StationInput, Interface}
use Rattle.lte_machine.specs.StationStep.{station_opens, station_pdu_in, station_row_of, station_key, station_step}
use Rattle.lte_machine.specs.World.{Machine, World, with_one, station_after, turn_of, happens}
use Rattle.lte_properties.specs.{ChainBelow.AllOf, ChainHolds.machine_by, ChainHolds.run, Separation.AttemptsDiffer}
use Rattle.lte_machine.proofs.{RecordFacts.RecordHas, AirFacts.AirHas, StationActFacts.StationActHas, Routing.found_in, Routing.happens_each, Worlds.TheWorld}
use Rattle.lte_machine.proofs.StationCases.{RecordCases, AirCases, ActCases, step_case}
use Rattle.lte_properties.proofs.ChainNumbers.Lists.{OfSome, all_one, all_put}

-- ROWS

-- a step keeps the station's number, its next number does not fall, and an attempt has one that was drawn now
pub record Numbered (s : Station Term ℕ) (d : Station Term ℕ × Reply Term ℕ) : Type 0 where
  pub same : d.0.id ≡ s.id
  pub rises : s.next ≤ d.0.next
  pub draws : OfSome (λ e. (e.station ≡ s.id) × (s.next ≤ e.attempt) × (e.attempt < d.0.next)) d.1.tried

module _ (same : Term → Term → Bool) (s : Station Term ℕ) where
  -- nothing is drawn
  quiet : (t : Station Term ℕ) (reply : Reply Term ℕ) → t.id ≡ s.id → t.next ≡ s.next → reply.tried ≡ None → Numbered s (t, reply)
  quiet t reply e f g = record {
    same = e;
    rises = subst (λ n. s.next ≤ n) (sym f) (omega arith);
    draws = subst (OfSome (λ a. (a.station ≡ s.id) × (s.next ≤ a.attempt) × (a.attempt < t.next))) (sym g) tt;
  }

  -- a number is drawn for something else
  drawn : (t : Station Term ℕ) (reply : Reply Term ℕ) → t.id ≡ s.id → s.next ≤ t.next → reply.tried ≡ None → Numbered s (t, reply)
  drawn t reply e f g = record {
    same = e;
    rises = f;
    draws = subst (OfSome (λ a. (a.station ≡ s.id) × (s.next ≤ a.attempt) × (a.attempt < t.next))) (sym g) tt;
  }

  one_on : (n : ℕ) → n ≡ s.next → s.next ≤ n + 1
  one_on n e = omega arith

  two_on : (n : ℕ) → n ≡ s.next + 1 → s.next ≤ n + 1
  two_on n e = omega arith

  record_numbered : (on : Interface) (fields : Fields)
      → RecordCases (term_reading_by same) s (λ row key. RecordHas (term_reading_by same) s on fields row) (Numbered s)
  record_numbered on fields =
      record {
        nothing = λ answer. quiet _ _ refl refl refl;
        given = λ conn cell caps algs air kenb k. drawn _ _ refl (one_on air k.air_is) refl;
        released = λ key k. quiet _ _ refl refl refl;
        taken = λ conn origin pair k. quiet _ _ refl refl refl;
        by_s1 = λ w pair k. drawn _ _ refl (one_on w.air k.admits.air_is) refl;
        by_x2 = λ w star k. drawn _ _ refl (one_on w.air k.admits.air_is) refl;
        answered = λ order key k. quiet _ _ refl refl refl;
        cancelled = λ from key k. quiet _ _ refl refl refl;
        left = λ key k. quiet _ _ refl refl refl;
        renewed = λ conn number air count c e kenb k. drawn _ _ refl (two_on air k.air_is) refl;
      }

  air_numbered : (air : ℕ) (on : Which) (pdu : List ℕ) (outcome : Outcome)
      → AirCases (term_reading_by same) s (AirHas (term_reading_by same) s air on pdu outcome) (Numbered s)
  air_numbered air on pdu outcome =
      record {
        nothing = λ answer. quiet _ _ refl refl refl;
        secured = λ count k. quiet _ _ refl refl refl;
        opened = λ srb count text k. quiet _ _ refl refl refl;
        packet = λ drb count text k. quiet _ _ refl refl refl;
        by_s1 = λ at count k p e. quiet _ _ refl refl refl;
        within = λ at count origin k p e. quiet _ _ refl refl refl;
        by_x2 = λ at count number k p e. drawn _ _ refl (one_on number k.0) refl;
      }

  act_numbered : (act : StationAct) → ActCases (term_reading_by same) s (StationActHas (term_reading_by same) s act) (Numbered s)
  act_numbered act =
      record {
        nothing = λ answer. quiet _ _ refl refl refl;
        by_x2 = λ number target cell k c e.
            let f : number ≡ s.next = k.number_is in
            record { same = refl; rises = one_on number f; draws = (refl, omega arith, omega arith) };
        by_s1 = λ number target cell k c e.
            let f : number ≡ s.next = k.number_is in
            record { same = refl; rises = one_on number f; draws = (refl, omega arith, omega arith) };
        within = λ number air cell k c e.
            let f : number ≡ s.next = k.starts.number_is in
            let x : air ≡ s.next + 1 = k.air_is in
            record { same = refl; rises = two_on air x; draws = (refl, omega arith, omega arith) };
        commanded = λ via order count k c e. quiet _ _ refl refl refl;
        cancelled_x2 = λ conn number target k. quiet _ _ refl refl refl;
        cancelled_s1 = λ conn number cell k. quiet _ _ refl refl refl;
        cancelled_within = λ number k. quiet _ _ refl refl refl;
        asked = λ number k c e. drawn _ _ refl (one_on number k.number_is) refl;
        packet = λ drb count text k c e. quiet _ _ refl refl refl;
        text = λ srb count text k c e. quiet _ _ refl refl refl;
        skipped = λ on n k. quiet _ _ refl refl refl;
      }

  -- a step
  told : (t : Station Term ℕ) (a b : Reply Term ℕ) → a.tried ≡ b.tried → Numbered s (t, a) → Numbered s (t, b)
  told t a b e h = record {
    same = h.same;
    rises = h.rises;
    draws = subst (OfSome (λ a. (a.station ≡ s.id) × (s.next ≤ a.attempt) × (a.attempt < t.next))) e h.draws;
  }

  pub step_numbered : (input : StationInput Term ℕ) (outcome : Outcome) → Numbered s (station_step (term_reading_by same) s input outcome)
  step_numbered input outcome =
      let does = station_does (term_reading_by same) (station_row_of (term_reading_by same) s input outcome) (station_key input) s in
      told does.0 does.1 _ refl (step_case (term_reading_by same) s (Numbered s) record_numbered air_numbered act_numbered input outcome)

-- WORLDS

-- each attempt of a station has a number below its next one
abbrev pub IsDrawn : Station Term ℕ → Tried Term ℕ → Type 0
IsDrawn s e = e.station ≡ s.id → e.attempt < s.next

pub record Apart (w : World Term ℕ (Outgoing Term ℕ)) : Type 0 where
  pub drawn : AllOf (λ s. AllOf (IsDrawn s) w.tried) w.stations
  pub differ : AttemptsDiffer w.tried

-- one more, of a number that none has
abbrev pub Differs : Tried Term ℕ → Tried Term ℕ → Type 0
Differs e f = e.station ≡ f.station → e.attempt ≡ f.attempt → ⊥

differ_one : (one : Tried Term ℕ) (es : List (Tried Term ℕ)) → AllOf (λ e. Differs e one) es → AttemptsDiffer es → AttemptsDiffer (es ++ one ∷ [])
differ_one one [] h k = (tt, tt)
differ_one one (e ∷ es) h k = (all_one (Differs e) (Some one) es k.0 h.0, differ_one one es h.1 k.1)

module _ (s : Station Term ℕ) (d : Station Term ℕ × Reply Term ℕ) (n : Numbered s d) where
  later : (e : Tried Term ℕ) → IsDrawn s e → IsDrawn d.0 e
  later e h k = let lt = h (k ∙ n.same) in let le = n.rises in omega arith

  later_all : (es : List (Tried Term ℕ)) → AllOf (IsDrawn s) es → AllOf (IsDrawn d.0) es
  later_all [] h = tt
  later_all (e ∷ es) h = (later e h.0, later_all es h.1)

  new_drawn : (o : Option (Tried Term ℕ)) → OfSome (λ e. (e.station ≡ s.id) × (s.next ≤ e.attempt) × (e.attempt < d.0.next)) o → OfSome (IsDrawn d.0) o
  new_drawn None h = tt
  new_drawn (Some e) h = λ k. h.2

  elsewhere : (u : Station Term ℕ)
      → (u.id ≡ s.id → ⊥)
      → (o : Option (Tried Term ℕ))
      → OfSome (λ e. (e.station ≡ s.id) × (s.next ≤ e.attempt) × (e.attempt < d.0.next)) o
      → OfSome (IsDrawn u) o
  elsewhere u f None h = tt
  elsewhere u f (Some e) h = λ k. absurd (f (sym k ∙ h.0))

  none_such : (one : Tried Term ℕ)
      → one.station ≡ s.id
      → s.next ≤ one.attempt
      → (es : List (Tried Term ℕ))
      → AllOf (IsDrawn s) es
      → AllOf (λ e. Differs e one) es
  none_such one a b [] h = tt
  none_such one a b (e ∷ es) h = ((λ i j. below e.attempt one.attempt (h.0 (i ∙ a)) b j), none_such one a b es h.1) where
    below : (m k : ℕ) → m < s.next → s.next ≤ k → m ≡ k → ⊥
    below m k lt le i = omega arith

  new_differs : (es : List (Tried Term ℕ))
      → AllOf (IsDrawn s) es
      → AttemptsDiffer es
      → (o : Option (Tried Term ℕ))
      → OfSome (λ e. (e.station ≡ s.id) × (s.next ≤ e.attempt) × (e.attempt < d.0.next)) o
      → AttemptsDiffer (with_one o es)
  new_differs es h k None l = k
  new_differs es h k (Some one) l = differ_one one es (none_such one l.0 l.1 es h) k

is_not : (a b : ℕ) → (a == b) ≡ false → a ≡ b → ⊥
is_not a b e f = grind (arith, nat_tests)

module _ (same : Term → Term → Bool) (root : ℕ → List ℕ → Term) (octets : Outgoing Term ℕ → List ℕ)
    (sender : Option (Outgoing Term ℕ) → Option (KeyUse Term))
    (opener : Opening Term → List ℕ → Option (Outgoing Term ℕ) → Outcome) where
  abbrev m : Machine Term ℕ (Outgoing Term ℕ)
  m = machine_by same root octets sender opener

  station_after_apart : (w : TheWorld) (id : ℕ) (s : Station Term ℕ) (d : Station Term ℕ × Reply Term ℕ)
      → s.id ≡ id
      → Numbered s d
      → AllOf (IsDrawn s) w.tried
      → Apart w
      → Apart (station_after m w id d).0
  station_after_apart w id s d e n f h = record {
    drawn = all_put (λ u. AllOf (IsDrawn u) w.tried) (λ u. AllOf (IsDrawn u) (with_one d.1.tried w.tried)) id d.0 w.stations
        (all_one (IsDrawn d.0) d.1.tried w.tried (later_all s d n w.tried f) (new_drawn s d n d.1.tried n.draws))
        (λ u g k. all_one (IsDrawn u) d.1.tried w.tried k (elsewhere s d n u (λ i. is_not u.id id g (i ∙ e)) d.1.tried n.draws)) h.drawn;
    differ = new_differs s d n w.tried f h.differ d.1.tried n.draws;
  }

  station_turn_apart : (w : TheWorld) (id : ℕ) (input : StationInput Term ℕ) (came : Option (Outgoing Term ℕ))
      (s : Station Term ℕ) → s.id ≡ id → AllOf (IsDrawn s) w.tried → Apart w →
      Apart (turn_of m w id input came (Some s)).0
  station_turn_apart w id input came s own f h =
      let outcome = opener (station_opens (term_reading_by same) s input) (station_pdu_in input) came in
      station_after_apart w id s (station_step (term_reading_by same) s input outcome) own (step_numbered same s input outcome) f h

  happens_apart : (w : TheWorld) (e : Event) → Apart w → Apart (happens m w e).0
  happens_apart w e h =
      happens_each m w (λ done a. Apart done.0)
      (λ ksi key caps. record { drawn = h.drawn; differ = h.differ })
      (λ input came turn. record { drawn = h.drawn; differ = h.differ })
      (λ input came. record { drawn = h.drawn; differ = h.differ })
      (λ id input came s there own. station_turn_apart w id input came s own (found_in (λ t. AllOf (IsDrawn t) w.tried) id w.stations s h.drawn there) h)
      (λ answer. record { drawn = h.drawn; differ = h.differ }) e

  pub run_apart : (w : TheWorld) (es : List Event) → Apart w → Apart (run m w es)
  run_apart w [] h = h
  run_apart w (e ∷ es) h = run_apart (happens m w e).0 es (happens_apart w e h)

stations_apart : (sites : List Site) (ss : List StationSetup) → AllOf (λ (s : Station Term ℕ). AllOf (IsDrawn s) []) (stations_of sites ss)
stations_apart sites [] = tt
stations_apart sites (s ∷ ss) = (tt, stations_apart sites ss)

pub first_apart : (setup : Setup) → Apart (first_world setup)
first_apart setup = record { drawn = stations_apart setup.cells setup.stations; differ = tt }
