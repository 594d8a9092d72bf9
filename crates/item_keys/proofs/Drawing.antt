-- What a station makes has the number that it draws in that step, and what it draws rises; where the phone takes a key it is connected.
use Rattle.std.proofs.Common.{◌≡◌, refl, sym, ap, ◌∙◌, subst, ℕ, suc, ◌+◌, ◌≤◌, ◌==◌, Bool, true, false, cond, List, [], ◌∷◌, ◌++◌, Option, Some, None, inl, inr, arith}
use Rattle.std.specs.Prelude.{◌⊎◌}
use Rattle.std.proofs.{lemmas.Bool.eqb-true, lemmas.Bool.Decides.nat_tests}
use Rattle.lte_events.specs.{declared.acts.StationAct.StationAct, declared.events.Event.Event, declared.setups.Setup.Setup}
use Rattle.key_model.specs.{Term.Term, Term.Root, Value.same_value, Reading.term_reading_by}
use Rattle.s1x2_rec.specs.Fields.{Fields}
use Rattle.lte_machine.specs.{Bearers.Which, BothRuns.annex_b_terms, ByEvent.IsStep, Ciphers.octets_of, Wire.KeyUse, Wire.Outgoing, StationKeys.station_does}
use Rattle.lte_machine.specs.Machines.{machine_by, sender_of, written_in_values}
use Rattle.lte_machine.specs.Opening.{Opening, Outcome, open_by_uses}
use Rattle.lte_machine.specs.Reply.{Made, Reply}
use Rattle.lte_machine.specs.StationState.{Station, StationInput, Interface}
use Rattle.lte_machine.specs.StationStep.{station_opens, station_pdu_in, station_row_of, station_key}
use Rattle.lte_machine.specs.World.{Machine, Line, with_one, put_if, put_station, station_of_id, turn_of, happens}
use Rattle.lte_machine.proofs.{EventByEvent.step_happens, RecordFacts.RecordHas, AirFacts.AirHas, StationActFacts.StationActHas, Routing.happens_each, Worlds.TheWorld}
use Rattle.lte_machine.proofs.StationCases.{RecordCases, AirCases, ActCases, step_case}
use Rattle.lte_properties.proofs.ChainNumbers.Lists.{OfSome}

-- A STEP OF A STATION

-- it keeps the number of the station, its next number does not fall, and what is made has one that was drawn now
pub record Draws (s : Station Term ℕ) (d : Station Term ℕ × Reply Term ℕ) : Type 0 where
  pub same : d.0.id ≡ s.id
  pub rises : s.next ≤ d.0.next
  pub makes : OfSome (λ (m : Made Term ℕ). (m.station ≡ s.id) × (s.next ≤ m.air) × (d.0.next ≡ suc m.air)) d.1.made

module _ (same : Term → Term → Bool) (s : Station Term ℕ) where
  -- nothing is made
  drawn : (t : Station Term ℕ) (reply : Reply Term ℕ) → t.id ≡ s.id → s.next ≤ t.next → reply.made ≡ None → Draws s (t, reply)
  drawn t reply e f g = record {
    same = e;
    rises = f;
    makes = subst (OfSome (λ (m : Made Term ℕ). (m.station ≡ s.id) × (s.next ≤ m.air) × (t.next ≡ suc m.air))) (sym g) tt;
  }

  quiet : (t : Station Term ℕ) (reply : Reply Term ℕ) → t.id ≡ s.id → t.next ≡ s.next → reply.made ≡ None → Draws s (t, reply)
  quiet t reply e f g = drawn t reply e (subst (λ n. s.next ≤ n) (sym f) (omega arith)) g

  one_on : (n : ℕ) → n ≡ s.next → s.next ≤ n + 1
  one_on n e = omega arith

  two_on : (n : ℕ) → n ≡ s.next + 1 → s.next ≤ n + 1
  two_on n e = omega arith

  at_one : (n : ℕ) → n ≡ s.next → s.next ≤ n
  at_one n e = omega arith

  at_two : (n : ℕ) → n ≡ s.next + 1 → s.next ≤ n
  at_two n e = omega arith

  one_more : (n : ℕ) → n + 1 ≡ suc n
  one_more n = omega arith

  record_draws : (on : Interface) (fields : Fields)
      → RecordCases (term_reading_by same) s (λ row key. RecordHas (term_reading_by same) s on fields row) (Draws s)
  record_draws on fields =
      record {
        nothing = λ answer. quiet _ _ refl refl refl;
        given = λ conn cell caps algs air kenb k. record { same = refl; rises = one_on air k.air_is; makes = (refl, at_one air k.air_is, one_more air) };
        released = λ key k. quiet _ _ refl refl refl;
        taken = λ conn origin pair k. quiet _ _ refl refl refl;
        by_s1 = λ w pair k. record { same = refl; rises = one_on w.air k.admits.air_is; makes = (refl, at_one w.air k.admits.air_is, one_more w.air) };
        by_x2 = λ w star k. record { same = refl; rises = one_on w.air k.admits.air_is; makes = (refl, at_one w.air k.admits.air_is, one_more w.air) };
        answered = λ order key k. quiet _ _ refl refl refl;
        cancelled = λ from key k. quiet _ _ refl refl refl;
        left = λ key k. quiet _ _ refl refl refl;
        renewed = λ conn number air count c e kenb k.
            record { same = refl; rises = two_on air k.air_is; makes = (refl, at_two air k.air_is, one_more air) };
      }

  air_draws : (air : ℕ) (on : Which) (pdu : List ℕ) (outcome : Outcome)
      → AirCases (term_reading_by same) s (AirHas (term_reading_by same) s air on pdu outcome) (Draws s)
  air_draws air on pdu outcome =
      record {
        nothing = λ answer. quiet _ _ refl refl refl;
        secured = λ count k. quiet _ _ refl refl refl;
        opened = λ srb count text k. quiet _ _ refl refl refl;
        packet = λ drb count text k. quiet _ _ refl refl refl;
        by_s1 = λ at count k p e. quiet _ _ refl refl refl;
        within = λ at count origin k p e. quiet _ _ refl refl refl;
        by_x2 = λ at count number k p e. drawn _ _ refl (one_on number k.0) refl;
      }

  act_draws : (act : StationAct) → ActCases (term_reading_by same) s (StationActHas (term_reading_by same) s act) (Draws s)
  act_draws act =
      record {
        nothing = λ answer. quiet _ _ refl refl refl;
        by_x2 = λ number target cell k c e. drawn _ _ refl (one_on number k.number_is) refl;
        by_s1 = λ number target cell k c e. drawn _ _ refl (one_on number k.number_is) refl;
        within = λ number air cell k c e. record { same = refl; rises = two_on air k.air_is; makes = (refl, at_two air k.air_is, one_more air) };
        commanded = λ via order count k c e. quiet _ _ refl refl refl;
        cancelled_x2 = λ conn number target k. quiet _ _ refl refl refl;
        cancelled_s1 = λ conn number cell k. quiet _ _ refl refl refl;
        cancelled_within = λ number k. quiet _ _ refl refl refl;
        asked = λ number k c e. drawn _ _ refl (one_on number k.number_is) refl;
        packet = λ drb count text k c e. quiet _ _ refl refl refl;
        text = λ srb count text k c e. quiet _ _ refl refl refl;
        skipped = λ on n k. quiet _ _ refl refl refl;
      }

  step_draws : (input : StationInput Term ℕ) (outcome : Outcome)
      → Draws s (station_does (term_reading_by same) (station_row_of (term_reading_by same) s input outcome) (station_key input) s)
  step_draws input outcome = step_case (term_reading_by same) s (Draws s) record_draws air_draws act_draws input outcome

-- A STATION IN ITS PLACE

-- the station of a number does not draw a lower one later
abbrev pub Rises : TheWorld → TheWorld → Type 0
Rises w u =
    (id : ℕ) (s : Station Term ℕ) → station_of_id id w.stations ≡ Some s
    → (t : Station Term ℕ) × (station_of_id id u.stations ≡ Some t) × (s.next ≤ t.next)

put_there : (id : ℕ) (new : Station Term ℕ) → new.id ≡ id → (ss : List (Station Term ℕ)) (s : Station Term ℕ) → station_of_id id ss ≡ Some s
    → station_of_id id (put_station id new ss) ≡ Some new
put_there id new own [] s e = absurd cc
put_there id new own (x ∷ xs) s e = by (x.id == id) refl e (put_there id new own xs s)
  where
    by : (b : Bool) → (x.id == id) ≡ b → cond b (Some x) (station_of_id id xs) ≡ Some s
        → (station_of_id id xs ≡ Some s → station_of_id id (put_station id new xs) ≡ Some new)
        → station_of_id id (put_if b new x ∷ put_station id new xs) ≡ Some new
    by true is f rest =
        let here : (new.id == id) ≡ true = grind (arith, nat_tests) in
        ap (λ b. cond b (Some new) (station_of_id id (put_station id new xs))) here
    by false is f rest = ap (λ b. cond b (Some x) (station_of_id id (put_station id new xs))) is ∙ rest f

put_beside : (id other : ℕ) (new : Station Term ℕ) → new.id ≡ id → (other == id) ≡ false → (ss : List (Station Term ℕ))
    → station_of_id other (put_station id new ss) ≡ station_of_id other ss
put_beside id other new own apart [] = refl
put_beside id other new own apart (x ∷ xs) = by (x.id == id) refl (put_beside id other new own apart xs)
  where
    by : (b : Bool) → (x.id == id) ≡ b → station_of_id other (put_station id new xs) ≡ station_of_id other xs
        → station_of_id other (put_if b new x ∷ put_station id new xs) ≡ station_of_id other (x ∷ xs)
    by true is rest =
        let here : (new.id == other) ≡ false = grind (arith, nat_tests) in
        let there : (x.id == other) ≡ false = grind (arith, nat_tests) in
        ap (λ b. cond b (Some new) (station_of_id other (put_station id new xs))) here ∙ rest
        ∙ sym (ap (λ b. cond b (Some x) (station_of_id other xs)) there)
    by false is rest = ap (λ o. cond (x.id == other) (Some x) o) rest

same_one : {A : Type 0} {a b : A} → ◌≡◌ {A = Option A} (Some a) (Some b) → a ≡ b
same_one e = cc

rise_put : (id : ℕ) (new s : Station Term ℕ) (ss : List (Station Term ℕ))
    → new.id ≡ id
    → station_of_id id ss ≡ Some s
    → s.next ≤ new.next
    → (other : ℕ) (t : Station Term ℕ)
    → station_of_id other ss ≡ Some t
    → (u : Station Term ℕ) × (station_of_id other (put_station id new ss) ≡ Some u) × (t.next ≤ u.next)
rise_put id new s ss own there rises other t at = by (other == id) refl
  where
    by : (b : Bool) → (other == id) ≡ b → (u : Station Term ℕ) × (station_of_id other (put_station id new ss) ≡ Some u) × (t.next ≤ u.next)
    by true is =
        let one : other ≡ id = eqb-true other id is in
        let it : t ≡ s = same_one (sym at ∙ ap (λ n. station_of_id n ss) one ∙ there) in (
          new,
          ap (λ n. station_of_id n (put_station id new ss)) one ∙ put_there id new own ss s there,
          subst (λ (x : Station Term ℕ). x.next ≤ new.next) (sym it) rises,
        )
    by false is = (t, put_beside id other new own is ss ∙ at, omega arith)

-- A STEP OF A WORLD

pub record MakesNext (w u : TheWorld) (m : Made Term ℕ) : Type 0 where
  pub grows : u.made ≡ w.made ++ m ∷ []
  pub before : Station Term ℕ
  pub was : station_of_id m.station w.stations ≡ Some before
  pub above : before.next ≤ m.air
  pub after : Station Term ℕ
  pub is : station_of_id m.station u.stations ≡ Some after
  pub own : after.id ≡ m.station
  pub next : after.next ≡ suc m.air

abbrev pub MadeDrawn : TheWorld → TheWorld → Type 0
MadeDrawn w u = (u.made ≡ w.made) ⊎ ((m : Made Term ℕ) × MakesNext w u m)

abbrev pub Drawn : TheWorld → TheWorld → Type 0
Drawn w u = Rises w u × MadeDrawn w u

still : (w : TheWorld) → Rises w w
still w id s there = (s, there, omega arith)

module _ (same : Term → Term → Bool) (root : ℕ → List ℕ → Term) (octets : Outgoing Term ℕ → List ℕ)
    (sender : Option (Outgoing Term ℕ) → Option (KeyUse Term))
    (opener : Opening Term → List ℕ → Option (Outgoing Term ℕ) → Outcome) where
  abbrev m : Machine Term ℕ (Outgoing Term ℕ)
  m = machine_by same root octets sender opener

  module _ (w : TheWorld) where
    made_by : (id : ℕ) (s : Station Term ℕ) (d : Station Term ℕ × Reply Term ℕ) (u : TheWorld)
        → s.id ≡ id
        → station_of_id id w.stations ≡ Some s
        → Draws s d
        → u.stations ≡ put_station id d.0 w.stations
        → (o : Option (Made Term ℕ))
        → d.1.made ≡ o
        → u.made ≡ with_one o w.made
        → MadeDrawn w u
    made_by id s d u own there h stands None e f = inl f
    made_by id s d u own there h stands (Some one) e f =
        let k = subst (OfSome (λ (x : Made Term ℕ). (x.station ≡ s.id) × (s.next ≤ x.air) × (d.0.next ≡ suc x.air))) e h.makes in
        let id_is : one.station ≡ id = k.0 ∙ own in
        inr (
          one,
          record {
            grows = f;
            before = s;
            was = ap (λ n. station_of_id n w.stations) id_is ∙ there;
            above = k.1;
            after = d.0;
            is = (λ j. station_of_id (id_is j) (stands j)) ∙ put_there id d.0 (h.same ∙ own) w.stations s there;
            own = h.same ∙ own ∙ sym id_is;
            next = k.2;
          },
        )

    station_drawn : (id : ℕ) (input : StationInput Term ℕ) (came : Option (Outgoing Term ℕ)) (s : Station Term ℕ)
        → station_of_id id w.stations ≡ Some s
        → s.id ≡ id
        → Drawn w (turn_of m w id input came (Some s)).0
    station_drawn id input came s there own =
        let outcome = opener (station_opens (term_reading_by same) s input) (station_pdu_in input) came in
        let d = station_does (term_reading_by same) (station_row_of (term_reading_by same) s input outcome) (station_key input) s in
        let h = step_draws same s input outcome in (
          rise_put id d.0 s w.stations (h.same ∙ own) there h.rises,
          made_by id s d (turn_of m w id input came (Some s)).0 own there h refl d.1.made refl refl,
        )

    pub happens_drawn : (e : Event) → Drawn w (happens m w e).0
    happens_drawn =
        happens_each m w (λ done a. Drawn w done.0) (λ ksi key caps. (still w, inl refl))
        (λ input came turn. (still w, inl refl)) (λ input came. (still w, inl refl))
        (λ id input came s there own. station_drawn id input came s there own) (λ answer. (still w, inl refl))

-- A STEP OF A RUN
pub step_drawn : (setup : Setup) (events : List Event) (k : ℕ) (w : TheWorld) (e : Event) (u : TheWorld) (line : Line Term)
    → IsStep setup events k w e u line
    → Drawn w u
step_drawn setup events k w e u line step =
    subst (λ (h : TheWorld × Line Term). Drawn w h.0) (sym (step_happens setup events k w e u line step))
    (happens_drawn same_value Root (octets_of annex_b_terms written_in_values) sender_of (open_by_uses same_value annex_b_terms) w e)
