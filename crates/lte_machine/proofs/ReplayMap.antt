-- A run in octets is the value of the run in terms: coincidences, lines and all.
use Rattle.std.proofs.Common.{◌≡◌, ℕ, Bool, true, false, List, [], ◌∷◌, map, Option, Some, None, refl, ap, sym, ◌∙◌}
use Rattle.std.specs.Prelude.{option_map, ◌&&◌, ◌==◌}
use Rattle.std.specs.List.{position_from, AllByRecursion as AllOf}
use Rattle.lte_events.specs.{declared.addresses.Address.Address, declared.events.Event.Event, Class.class_of, Ranges.IsEvent}
use Rattle.key_model.specs.Use.{map_use}
use Rattle.lte_machine.specs.{Wire.KeyUse, Ladder.Clash, Ladder.ladder_of, PhoneStep.phone_pdu_in, StationStep.station_pdu_in, CoreStep.core_pdu_in}
use Rattle.lte_machine.specs.Opening.{Opening, Outcome, accepted_of, same_dir, same_uses}
use Rattle.lte_machine.specs.Tuples.{Coincidence, tuples_unless, same_sender, tuple_coincidence}
use Rattle.lte_machine.specs.PhoneState.{PhoneInput, PhoneActs, PhoneNasPdu, PhoneAirPdu, map_phone_input}
use Rattle.lte_machine.specs.StationState.{Station, StationInput, StationActs, AirPdu, StationRecord, OnS1, OnX2, map_station, map_station_input}
use Rattle.lte_machine.specs.CoreState.{CoreInput, CoreActs, CoreNasPdu, CoreRecord, map_core_input}
use Rattle.lte_machine.specs.World.{Machine, World, Line, station_of_id, content_in, record_at, is_sent, happens}
use Rattle.lte_machine.specs.Step.{Attempted, attempted, phone_attempts, core_attempts, attempts_at, station_attempts, arrival_attempts, delivery_attempts, injection_attempts, opening_coincidence, StepResult, Continues, Stops, by_ladder, by_coincidence, next}
use Rattle.lte_machine.specs.Run.{RunState, Running, Stopped, after, turn, replay, reported, event_report, report}
use Rattle.lte_machine.specs.Carried.{map_world, map_line, map_clash, map_coincidence, map_run_state, map_report}
use Rattle.lte_machine.proofs.{PhoneMap.phone_opens_map, CoreMap.core_opens_map, StationMap.station_opens_map, LadderMap.ladder_of-map, MapSteps.map_opening, MapSteps.accepted-map}
use Rattle.lte_machine.proofs.WorldMap.{Agree, map_told, station_of_id-map, chosen-map, found-map, BackAt, BackIf, BackOf, none_back, happens-map}

abbrev map_attempted : {K S L T : Type 0} → (K → L) → (S → T) → Attempted K S → Attempted L T
map_attempted f z a = record { opening = map_opening f a.opening; octets = a.octets; came = option_map z a.came }

abbrev map_next : {K C S L D T : Type 0} → (K → L) → (C → D) → (S → T) → StepResult K C S → StepResult L D T
map_next f g z (Continues w line) = Continues (map_world f g z w) (map_line f line)
map_next f g z (Stops coincidence) = Stops (map_coincidence f coincidence)

module _ {K C S L D T : Type 0} (m : Machine K C S) (q : Machine L D T) (f : K → L) (g : C → D) (z : S → T) (a : Agree m q f g z)
    (by_octets : Opening K → List ℕ → Outcome) (by_octets' : Opening L → List ℕ → Outcome)
    (opens : (p : Opening K) (pdu : List ℕ) → by_octets' (map_opening f p) pdu ≡ by_octets p pdu) where
  same_uses-map : (u v : KeyUse K) → same_uses m.reading.same u v ≡ same_uses q.reading.same (map_use f u) (map_use f v)
  same_uses-map u v = ap (λ b. b && (u.count == v.count) && (u.bearer == v.bearer) && same_dir u.dir v.dir) (sym (a.carries.same u.key v.key))

  same_sender-map : (o : Option (KeyUse K)) (u : KeyUse K)
      → same_sender m.reading.same o u ≡ same_sender q.reading.same (option_map (map_use f) o) (map_use f u)
  same_sender-map None u = refl
  same_sender-map (Some v) u = same_uses-map u v

  tuples-map : (b : Bool) (o : Option (KeyUse K)) (u : KeyUse K)
      → option_map (map_coincidence f) (tuples_unless b o u) ≡ tuples_unless b (option_map (map_use f) o) (map_use f u)
  tuples-map true o u = refl
  tuples-map false o u = refl

  tuple_coincidence-map : (o accepted : Option (KeyUse K))
      → option_map (map_coincidence f) (tuple_coincidence m.reading.same o accepted)
      ≡ tuple_coincidence q.reading.same (option_map (map_use f) o) (option_map (map_use f) accepted)
  tuple_coincidence-map o None = refl
  tuple_coincidence-map o (Some u) =
      tuples-map (same_sender m.reading.same o u) o u
      ∙ ap (λ b. tuples_unless b (option_map (map_use f) o) (map_use f u)) (same_sender-map o u)

  coincidence-map : (x : Attempted K S)
      → option_map (map_coincidence f) (opening_coincidence by_octets m x)
      ≡ opening_coincidence by_octets' q (map_attempted f z x)
  coincidence-map x =
      tuple_coincidence-map (m.sender x.came) (accepted_of x.opening (by_octets x.opening x.octets))
      ∙ (λ j. tuple_coincidence q.reading.same (sym (a.sender x.came) j)
      ((accepted-map f x.opening (by_octets x.opening x.octets)
      ∙ ap (accepted_of (map_opening f x.opening)) (sym (opens x.opening x.octets)))
      j))

  phone_attempts-map : (w : World K C S) (i : PhoneInput K) (pdu : List ℕ) → phone_pdu_in i ≡ pdu → phone_pdu_in (map_phone_input f i) ≡ pdu → (o : Option S)
      → map_attempted f z (phone_attempts m w i o) ≡ phone_attempts q (map_world f g z w) (map_phone_input f i) (option_map z o)
  phone_attempts-map w i pdu e e' o = λ j. record {
    opening = phone_opens_map m.reading q.reading f g a.carries w.phone i j;
    octets = (e ∙ sym e') j;
    came = option_map z o;
  }

  core_attempts-map : (w : World K C S) (i : CoreInput K C) (pdu : List ℕ) → core_pdu_in i ≡ pdu → core_pdu_in (map_core_input f g i) ≡ pdu → (o : Option S)
      → map_attempted f z (core_attempts m w i o) ≡ core_attempts q (map_world f g z w) (map_core_input f g i) (option_map z o)
  core_attempts-map w i pdu e e' o = λ j. record {
    opening = core_opens_map m.reading q.reading f g a.carries w.core i j;
    octets = (e ∙ sym e') j;
    came = option_map z o;
  }

  attempts_at-map : (i : StationInput K C) (pdu : List ℕ)
      → station_pdu_in i ≡ pdu
      → station_pdu_in (map_station_input f g i) ≡ pdu
      → (o : Option S) (s : Option (Station K C))
      → map_attempted f z (attempts_at m i o s) ≡ attempts_at q (map_station_input f g i) (option_map z o) (option_map (map_station f g) s)
  attempts_at-map i pdu e e' o None = refl
  attempts_at-map i pdu e e' o (Some s) = λ j. record {
    opening = station_opens_map a.carries s i j;
    octets = (e ∙ sym e') j;
    came = option_map z o;
  }

  station_attempts-map : (w : World K C S) (id : ℕ) (i : StationInput K C) (pdu : List ℕ)
      → station_pdu_in i ≡ pdu
      → station_pdu_in (map_station_input f g i) ≡ pdu
      → (o : Option S)
      → map_attempted f z (station_attempts m w id i o) ≡ station_attempts q (map_world f g z w) id (map_station_input f g i) (option_map z o)
  station_attempts-map w id i pdu e e' o =
      attempts_at-map i pdu e e' o (station_of_id id w.stations)
      ∙ ap (attempts_at q (map_station_input f g i) (option_map z o)) (station_of_id-map m q f g z a id w.stations)

  arrival-map : (w : World K C S) (to : Address) (pdu : List ℕ) (o : Option S)
      → BackAt m q f g z a to o
      → map_attempted f z (arrival_attempts m w to pdu o)
      ≡ arrival_attempts q (map_world f g z w) to pdu (option_map z o)
  arrival-map w Address.PhoneNas pdu o back = phone_attempts-map w (PhoneNasPdu pdu) pdu refl refl o
  arrival-map w (Address.Phone station air bearer) pdu o back = phone_attempts-map w (PhoneAirPdu station air bearer pdu) pdu refl refl o
  arrival-map w Address.CoreNas pdu o back = core_attempts-map w (CoreNasPdu pdu) pdu refl refl o
  arrival-map w Address.CoreS1 pdu o back =
      core_attempts-map w (CoreRecord (content_in m o)) [] refl refl o
      ∙ ap (λ c. core_attempts q (map_world f g z w) (CoreRecord c) (option_map z o)) (sym back)
  arrival-map w (Address.StationAir station air bearer) pdu o back = station_attempts-map w station (AirPdu air bearer pdu) pdu refl refl o
  arrival-map w (Address.StationS1 station) pdu o back =
      station_attempts-map w station (StationRecord OnS1 (content_in m o)) [] refl refl o
      ∙ ap (λ c. station_attempts q (map_world f g z w) station (StationRecord OnS1 c) (option_map z o)) (sym back)
  arrival-map w (Address.StationX2 station) pdu o back =
      station_attempts-map w station (StationRecord OnX2 (content_in m o)) [] refl refl o
      ∙ ap (λ c. station_attempts q (map_world f g z w) station (StationRecord OnX2 c) (option_map z o)) (sym back)

  delivery-map : (w : World K C S) (o : Option S)
      → BackIf m q f g z a o
      → map_attempted f z (delivery_attempts m w o) ≡ delivery_attempts q (map_world f g z w) (option_map z o)
  delivery-map w None back = refl
  delivery-map w (Some x) back =
      arrival-map w (m.address x) (m.octets x) (Some x) back
      ∙ (λ j. arrival_attempts q (map_world f g z w) (sym (a.address x) j) (sym (a.octets x) j) (Some (z x)))

  injection-map : (w : World K C S) (to : Address) (octets : List ℕ) (o : Option ℕ)
      → map_attempted f z (injection_attempts m w to octets o) ≡ injection_attempts q (map_world f g z w) to octets o
  injection-map w to octets None = arrival-map w to octets None (none_back m q f g z a to)
  injection-map w to octets (Some number) = refl

  attempted-map : (w : World K C S) (e : Event) → BackOf m q f g z a w e → map_attempted f z (attempted m w e) ≡ attempted q (map_world f g z w) e
  attempted-map w (Event.Auth ksi octets caps) back = refl
  attempted-map w (Event.Phone act) back = phone_attempts-map w (PhoneActs act) [] refl refl None
  attempted-map w (Event.Station id act) back = station_attempts-map w id (StationActs act) [] refl refl None
  attempted-map w (Event.Core act) back = core_attempts-map w (CoreActs act) [] refl refl None
  attempted-map w (Event.Deliver i) back =
      delivery-map w (record_at i w.sent) back
      ∙ ap (delivery_attempts q (map_world f g z w)) (chosen-map m q f g z a i w.sent)
  attempted-map w (Event.Inject to octets) back =
      injection-map w to octets (position_from (is_sent m (class_of to) octets) 0 w.sent)
      ∙ ap (injection_attempts q (map_world f g z w) to octets) (found-map m q f g z a (class_of to) octets 0 w.sent)

  ladder-map : (o : Option (Clash K)) (h : World K C S × Line K) → map_next f g z (by_ladder o h) ≡ by_ladder (option_map (map_clash f) o) (map_told f g z h)
  ladder-map None h = refl
  ladder-map (Some clash) h = refl

  by_coincidence-map : (o : Option (Coincidence K)) (h : World K C S × Line K)
      → map_next f g z (by_coincidence m.reading.same o h)
      ≡ by_coincidence q.reading.same (option_map (map_coincidence f) o) (map_told f g z h)
  by_coincidence-map (Some coincidence) h = refl
  by_coincidence-map None h =
      ladder-map (ladder_of m.reading.same h.0.history).clash h
      ∙ ap (λ l. by_ladder l.clash (map_told f g z h)) (ladder_of-map m.reading.same q.reading.same f a.carries.same h.0.history)

  -- what comes of an event is carried
  pub next-map : (w : World K C S) (e : Event) → BackOf m q f g z a w e → map_next f g z (next by_octets m w e) ≡ next by_octets' q (map_world f g z w) e
  next-map w e back =
      by_coincidence-map (opening_coincidence by_octets m (attempted m w e)) (happens m w e)
      ∙ (λ j. by_coincidence q.reading.same
      ((coincidence-map (attempted m w e) ∙ ap (opening_coincidence by_octets' q) (attempted-map w e back)) j)
      (happens-map m q f g z a w e back j))

  after-map : (n : StepResult K C S) → map_run_state f g z (after n) ≡ after (map_next f g z n)
  after-map (Continues w line) = refl
  after-map (Stops coincidence) = refl

  reported-map : (n : StepResult K C S) → map_report f (reported n) ≡ reported (map_next f g z n)
  reported-map (Continues w line) = refl
  reported-map (Stops coincidence) = refl

  -- a property of worlds that every event keeps, and by which what was sent reads back
  pub record Keeps (I : World K C S → Type 0) : Type 0 where
    pub keeps : (w : World K C S) (e : Event) → IsEvent e → I w → I (happens m w e).0
    pub back : (w : World K C S) (e : Event) → IsEvent e → I w → BackOf m q f g z a w e

  module _ (I : World K C S → Type 0) (k : Keeps I) where
    abbrev pub Holds : RunState K C S → Type 0
    Holds (Running w) = I w
    Holds (Stopped coincidence) = Unit {0}

    next_holds : (h : World K C S × Line K) (o : Option (Clash K)) → I h.0 → Holds (after (by_ladder o h))
    next_holds h None i = i
    next_holds h (Some clash) i = tt

    coincidence_holds : (o : Option (Coincidence K)) (h : World K C S × Line K) → I h.0 → Holds (after (by_coincidence m.reading.same o h))
    coincidence_holds None h i = next_holds h (ladder_of m.reading.same h.0.history).clash i
    coincidence_holds (Some coincidence) h i = tt

    pub turn_holds : (r : RunState K C S) (e : Event) → IsEvent e → Holds r → Holds (turn by_octets m r e)
    turn_holds (Stopped coincidence) e is i = tt
    turn_holds (Running w) e is i = coincidence_holds (opening_coincidence by_octets m (attempted m w e)) (happens m w e) (k.keeps w e is i)

    turn-map : (r : RunState K C S) (e : Event) → IsEvent e → Holds r → map_run_state f g z (turn by_octets m r e) ≡ turn by_octets' q (map_run_state f g z r) e
    turn-map (Stopped coincidence) e is i = refl
    turn-map (Running w) e is i = after-map (next by_octets m w e) ∙ ap after (next-map w e (k.back w e is i))

    pub replay-map : (r : RunState K C S) (es : List Event)
        → AllOf IsEvent es
        → Holds r
        → map_run_state f g z (replay by_octets m r es) ≡ replay by_octets' q (map_run_state f g z r) es
    replay-map r [] are i = refl
    replay-map r (e ∷ es) are i =
        replay-map (turn by_octets m r e) es are.1 (turn_holds r e are.0 i)
        ∙ ap (λ x. replay by_octets' q x es) (turn-map r e are.0 i)

    event_report-map : (r : RunState K C S) (e : Event)
        → IsEvent e
        → Holds r
        → map_report f (event_report by_octets m r e) ≡ event_report by_octets' q (map_run_state f g z r) e
    event_report-map (Stopped coincidence) e is i = refl
    event_report-map (Running w) e is i = reported-map (next by_octets m w e) ∙ ap reported (next-map w e (k.back w e is i))

    pub report-map : (r : RunState K C S) (es : List Event)
        → AllOf IsEvent es
        → Holds r
        → map (map_report f) (report by_octets m r es) ≡ report by_octets' q (map_run_state f g z r) es
    report-map r [] are i = refl
    report-map r (e ∷ es) are i = λ j.
        event_report-map r e are.0 i j
        ∷ (report-map (turn by_octets m r e) es are.1 (turn_holds r e are.0 i) ∙ ap (λ x. report by_octets' q x es) (turn-map r e are.0 i)) j
