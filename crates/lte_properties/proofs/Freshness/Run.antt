-- Each event keeps what holds of keys and uses, where a station accepts what was sealed so.
use Rattle.std.proofs.Common.{◌≡◌, refl, sym, ap, ◌∙◌, subst, ℕ, ◌+◌, ◌<◌, Bool, List, [], ◌∷◌, Option, Some, None, Result, Ok, Err, arith}
use Rattle.std.specs.Prelude.{IfSome, ⊤}
use Rattle.alg_choice.specs.declared.caps.Caps.{Caps}
use Rattle.rec_base.specs.{declared.bearers.Bearer.Bearer, declared.faults.RecFault.RecFault}
use Rattle.rec_base.specs.declared.uses.Dir.TheVariants.{Up, Down}
use Rattle.lte_events.specs.{declared.addresses.Address.Address, declared.acts.StationAct.StationAct, declared.answers.Answer.Answer, declared.answers.Answer.TheVariants.BadRecord, declared.events.Event.Event}
use Rattle.lte_events.specs.declared.addresses.Address.TheVariants as at
use Rattle.key_model.specs.{Term.Term, Term.Root, Reading.Reading, Reading.term_reading_by}
use Rattle.s1x2_rec.specs.Content.{Content}
use Rattle.ho_prep.specs.Prep.{Prep, at_air}
use Rattle.lte_machine.specs.{Bearers.which, PhoneChoice.act_row, StationRows.RecordRefused, StationStep.station_step, StationStep.station_opens, CoreStep.core_step, CoreStep.core_opens, Machines.sender_of, Step.attempts_at}
use Rattle.lte_machine.specs.Wire.{KeyUse, Outgoing, SealedNas, SealedRrc, Between, address_of, integrity_of}
use Rattle.lte_machine.specs.Opening.{Opening, Outcome, Opened, Differs}
use Rattle.lte_machine.specs.PhoneState.{Radio, Idle, Connecting, Connected, Phone, PhoneInput, PhoneAuth, PhoneActs, PhoneNasPdu, PhoneAirPdu}
use Rattle.lte_machine.specs.PhoneStep.{phone_step, phone_opens, phone_pdu_in, plain_phone}
use Rattle.lte_machine.specs.StationState.{Station, Context, StationActs, AirPdu, StationRecord, Interface, OnS1, OnX2}
use Rattle.lte_machine.specs.StationChoice.{AirFront, AirSettled, OnStarting, OnSignalling, OnUser, OnPrepared}
use Rattle.lte_machine.specs.StationKeys.{air_expects, starting_expects, signalling_expects, user_expects, prepared_expects}
use Rattle.lte_machine.specs.CoreState.{Core, CoreActs, CoreNasPdu, CoreRecord}
use Rattle.lte_machine.specs.World.{Machine, World, by_world, phone_turn, turn_of, content_in, authenticated, next_root, happens}
use Rattle.lte_machine.proofs.{ActFacts.act_has, NasFacts.nas_has, Tests.by_some, Tests.none_some, AirFacts.air_has, StationActFacts.station_act_has}
use Rattle.lte_machine.proofs.Routing.{address_on, IsTurn, Found, Turns, happens_by}
use Rattle.lte_properties.specs.{ChainBelow.AllOf, ChainHolds.machine_by, ChainHolds.run}
use Rattle.lte_properties.proofs.Freshness.Premises.{srb_accepted, SealedAsAccepted, SentUnder, AllSentUnder}
use Rattle.lte_properties.proofs.{Freshness.Sequence.authentication_of, Freshness.Order.on_key, SameKeys.IsReflexive}
use Rattle.lte_properties.proofs.Freshness.Uses.{home_at, Homes, OnKey, IsNas, IsAs, NasUp, AsUp, UpUse, NasDown, CoreUse, StationUse}
use Rattle.lte_properties.proofs.Freshness.Stands.{Mark, IsPast, partial_root, context_root, phone_mark, RadioStands, PhoneStands, core_partial_root, core_context_root, core_mark, CoreStands, StationStands, BetweenStands, RecordStands, Fresh}
use Rattle.lte_properties.proofs.ChainNumbers.Lists.{OfSome, all_map, all_both, one_root_more}
use Rattle.lte_properties.proofs.Freshness.Phone as phone
use Rattle.lte_properties.proofs.Freshness.PhoneNas as phone_nas
use Rattle.lte_properties.proofs.Freshness.Core.{core_nas_keeps, core_record_keeps, core_act_keeps}
use Rattle.lte_properties.proofs.Freshness.Station as station
use Rattle.lte_properties.proofs.Freshness.StationFront.{air_row_needs, record_needs, GoesHere, on_s1, on_x2}
use Rattle.lte_properties.proofs.Freshness.World.{phone_fresh, core_fresh, station_fresh}

-- AUTHENTICATIONS

-- a key of an older authentication is not the new KASME
not_new : (roots : ℕ) (t root : Term) → authentication_of t < roots → authentication_of root ≡ roots → t ≡ root → ⊥
not_new roots t root lt e f = let k = ap authentication_of f in absurd (omega arith)

module _ (roots : ℕ) (root : Term) (new : authentication_of root ≡ roots) where
  -- what is past is past after one more authentication
  past_more : (partial : Option ℕ) (mark : Option Mark) (t : Term) → IsPast roots partial mark t → IsPast (roots + 1) (Some (authentication_of root)) mark t
  past_more partial mark t h = let x = h.0 in (omega arith, omega arith, h.2)

  -- all KASMEs are older than the new one
  context_older : (partial context : Option ℕ) → IfSome context (λ c. (c < roots) × IfSome partial (λ p. c < p)) →
      IfSome context (λ c. (c < roots + 1) × (c < authentication_of root))
  context_older partial None h = tt
  context_older partial (Some c) h = let x = h.0 in (omega arith, omega arith)

  -- the radio stands
  radio_more : (taken : Homes) (partial : Option ℕ) (mark : Option Mark) (radio : Radio Term ℕ) → RadioStands roots partial mark taken radio →
      RadioStands (roots + 1) (Some (authentication_of root)) mark taken radio
  radio_more taken partial mark Idle h = tt
  radio_more taken partial mark (Connecting k) h = (past_more partial mark k.kenb h.0, h.1)
  radio_more taken partial mark (Connected l) h = h

  -- the phone stands, with its new partial context
  pub phone_more : (taken : Homes) (ksi : ℕ) (s : Phone Term ℕ)
      → PhoneStands roots taken s
      → PhoneStands (roots + 1) taken (record s { partial = Some (record { ksi = ksi; root = root }) })
  phone_more taken ksi s h = record {
    kasmes = (omega arith, context_older (partial_root s.partial) (context_root s.context) h.kasmes.1);
    keys = h.keys;
    past = λ t k e. past_more (partial_root s.partial) (phone_mark s.context) t (h.past t k e);
    radio = radio_more taken (partial_root s.partial) (phone_mark s.context) s.radio h.radio;
    older = h.older;
    sent = h.sent;
  }

  -- and the core
  core_more : (given : Homes) (ksi : ℕ) (caps : Caps) (s : Core Term ℕ) → CoreStands roots given s →
      CoreStands (roots + 1) given (record s { latest = caps; partial = Some (record { ksi = ksi; root = root; caps = caps; send = 0 }); procedure = None })
  core_more given ksi caps s h = record {
    kasmes = (omega arith, context_older (core_partial_root s.partial) (core_context_root s.context) h.kasmes.1);
    keys = h.keys;
    procedure = tt;
    trigger = h.trigger;
    past = λ t k e. past_more (core_partial_root s.partial) (core_mark s.trigger s.context) t (h.past t k e);
  }

  -- uplink uses stand
  up_more : (taken : Homes) (ksi : ℕ) (s : Phone Term ℕ) (u : KeyUse Term)
      → UpUse roots taken s u
      → UpUse (roots + 1) taken (record s { partial = Some (record { ksi = ksi; root = root }) }) u
  up_more taken ksi s u h =
      on_key (λ t type. (IsNas type → NasUp roots s.partial s.context t u.count) × (IsAs type → AsUp taken s.radio t type u.count u.bearer))
      (λ t type. (IsNas type → NasUp (roots + 1) (Some (record { ksi = ksi; root = root })) s.context t u.count)
      × (IsAs type → AsUp taken s.radio t type u.count u.bearer))
      (λ t type x. (λ n. let y = x.0 n in (let z = y.0 in omega arith, not_new roots t root y.0 new, y.2), x.1)) u.key h

  -- and the core's
  nas_more : (ksi : ℕ) (caps : Caps) (s : Core Term ℕ) (u : KeyUse Term) → CoreUse roots s u →
      CoreUse (roots + 1) (record s { latest = caps; partial = Some (record { ksi = ksi; root = root; caps = caps; send = 0 }); procedure = None }) u
  nas_more ksi caps s u h =
      on_key (λ t type. IsNas type → NasDown roots s.partial s.context t u.count)
      (λ t type. IsNas type → NasDown (roots + 1) (Some (record { ksi = ksi; root = root; caps = caps; send = 0 })) s.context t u.count)
      (λ t type x n. let y = x n in (let z = y.0 in omega arith, λ e. absurd (not_new roots t root y.0 new e), y.2)) u.key h

-- WHAT A STATION ACCEPTS

-- it expects uplink
starting_up : (count : ℕ) (o : Option (Context Term ℕ)) (outcome : Outcome) (u : KeyUse Term)
    → srb_accepted (starting_expects count o) outcome ≡ Some u
    → u.dir ≡ Up
starting_up count None outcome u e = absurd (none_some e)
starting_up count (Some c) (Opened text) u e = sym (ap (λ (v : KeyUse Term). v.dir) (by_some e))
starting_up count (Some c) (Differs wanted got) u e = absurd (none_some e)

-- by whether there is a context
signalling_up : (front : Option (Context Term ℕ) → Opening Term) → (outcome : Outcome) (u : KeyUse Term) → (o : Option (Context Term ℕ)) →
    ((c : Context Term ℕ) → srb_accepted (front (Some c)) outcome ≡ Some u → u.dir ≡ Up) → (srb_accepted (front None) outcome ≡ Some u → u.dir ≡ Up) →
    srb_accepted (front o) outcome ≡ Some u → u.dir ≡ Up
signalling_up front outcome u None f g e = g e
signalling_up front outcome u (Some c) f g e = f c e

-- so does a preparation
prepared_up : (count : ℕ) (o : Option (Prep Term ℕ)) (outcome : Outcome) (u : KeyUse Term)
    → srb_accepted (prepared_expects count o) outcome ≡ Some u
    → u.dir ≡ Up
prepared_up count None outcome u e = absurd (none_some e)
prepared_up count (Some p) (Opened text) u e = sym (ap (λ (v : KeyUse Term). v.dir) (by_some e))
prepared_up count (Some p) (Differs wanted got) u e = absurd (none_some e)

-- all that a station accepts is uplink
accepts_up : (s : Station Term ℕ) (front : AirFront) (outcome : Outcome) (u : KeyUse Term) → srb_accepted (air_expects front s) outcome ≡ Some u → u.dir ≡ Up
accepts_up s (AirSettled row) outcome u e = absurd (none_some e)
accepts_up s (OnStarting count) outcome u e = starting_up count s.context outcome u e
accepts_up s (OnSignalling srb count) (Opened text) u e =
    signalling_up (signalling_expects srb count) (Opened text) u s.context
    (λ c f. sym (ap (λ (v : KeyUse Term). v.dir) (by_some f))) (λ f. absurd (none_some f)) e
accepts_up s (OnSignalling srb count) (Differs wanted got) u e =
    signalling_up (signalling_expects srb count) (Differs wanted got) u s.context (λ c f. absurd (none_some f)) (λ f. absurd (none_some f)) e
accepts_up s (OnUser drb count) outcome u e =
    signalling_up (user_expects drb count) outcome u s.context (λ c f. absurd (none_some f)) (λ f. absurd (none_some f)) e
accepts_up s (OnPrepared air by count) outcome u e = prepared_up count (at_air air s.preps) outcome u e

-- the station and air address of an address on the air
abbrev air_station : Address → ℕ
air_station (at.StationAir station air bearer) = station
air_station other = 0

-- and the air address
abbrev air_number : Address → ℕ
air_number (at.StationAir station air bearer) = air
air_number other = 0

-- a sealed record that goes to a station and air address is under a KeNB that the phone took there
sealed_there : (taken given : Homes) (station air : ℕ) (bearer : Bearer) (u : KeyUse Term) (x : Outgoing Term ℕ) →
    address_of x ≡ at.StationAir station air bearer →
    integrity_of x ≡ Some u → RecordStands taken given x → OnKey (λ t type. taken t ≡ Some (home_at station air)) u.key
sealed_there taken given station air bearer u (SealedRrc Up station' air' srb v e text) f g h =
    let a : home_at station' air' ≡ home_at station air = λ j. home_at (ap air_station f j) (ap air_number f j) in
    subst (λ k. OnKey (λ t type. taken t ≡ Some (home_at station air)) k) (ap (λ (w : KeyUse Term). w.key) (by_some g))
    (on_key (λ t type. taken t ≡ Some (home_at station' air')) (λ t type. taken t ≡ Some (home_at station air)) (λ t type k. k ∙ ap Some a) v.key h)
sealed_there taken given station air bearer u (SealedRrc Down station' air' srb v e text) f g h = absurd (cc)
sealed_there taken given station air bearer u (SealedNas Up header v e text) f g h = absurd (cc)
sealed_there taken given station air bearer u (SealedNas Down header v e text) f g h = absurd (cc)
sealed_there taken given station air bearer u other f g h = absurd (none_some g)

-- what came to an address stands, if it was sent
abbrev Came : Homes → Homes → Address → Option (Outgoing Term ℕ) → Type 0
Came taken given to came = OfSome (λ x. (address_of x ≡ to) × RecordStands taken given x) came

-- what came so is under a KeNB that the phone took there
came_there : (taken given : Homes) (station air : ℕ) (bearer : Bearer) (u : KeyUse Term)
    (came : Option (Outgoing Term ℕ)) → Came taken given (at.StationAir station air bearer) came →
    sender_of came ≡ Some u → OnKey (λ t type. taken t ≡ Some (home_at station air)) u.key
came_there taken given station air bearer u None h e = absurd (none_some e)
came_there taken given station air bearer u (Some x) h e = sealed_there taken given station air bearer u x h.0 e h.1

-- a record on S1 or X2 as it reads
abbrev ReadStands : Homes → Address → Result (Content Term ℕ) RecFault → Type 0
ReadStands given to (Ok content) = BetweenStands given to content.fields content.key
ReadStands given to (Err fault) = ⊤

-- and goes to the station that it comes to
goes_here : (on : Interface) (id : ℕ) → GoesHere (address_on on id) id
goes_here OnS1 id = on_s1 id
goes_here OnX2 id = on_x2 id

-- a step of the phone needs nothing of what it opens
pub turn_keeps : (same : Term → Term → Bool) → IsReflexive same →
    (roots : ℕ) (taken : Homes) (s : Phone Term ℕ) (input : PhoneInput Term) (outcome : Outcome) → IsTurn input →
    PhoneStands roots taken s →
    let d = phone_step (term_reading_by same) s input outcome in phone_nas.PhoneKeeps roots taken s d.0 d.1.sent d.1.took
turn_keeps same itself roots taken s (PhoneAuth ksi root) outcome t h = absurd t
turn_keeps same itself roots taken s (PhoneActs act) outcome t h = phone.act_keeps roots taken same (act_row (plain_phone (term_reading_by same) s) act) s h
turn_keeps same itself roots taken s (PhoneNasPdu pdu) outcome t h = phone_nas.nas_keeps roots taken same _ s h
turn_keeps same itself roots taken s (PhoneAirPdu station air bearer pdu) outcome t h = phone.air_keeps roots taken same itself _ s h

module _ (same : Term → Term → Bool) (itself : IsReflexive same) (octets : Outgoing Term ℕ → List ℕ) (sender : Option (Outgoing Term ℕ) → Option (KeyUse Term))
    (opener : Opening Term → List ℕ → Option (Outgoing Term ℕ) → Outcome) where
  -- the machine
  abbrev pub m : Machine Term ℕ (Outgoing Term ℕ)
  m = machine_by same Root octets sender opener

  -- its reading
  abbrev r : Reading Term ℕ
  r = term_reading_by same

  module _ (w : World Term ℕ (Outgoing Term ℕ)) where
    -- a step of the phone needs no premise
    phone_turn_fresh : (input : PhoneInput Term) (came : Option (Outgoing Term ℕ)) → IsTurn input → Fresh w → Fresh (phone_turn m w input came).0
    phone_turn_fresh input came t h =
        let outcome = opener (phone_opens r w.phone input) (phone_pdu_in input) came in
        phone_fresh m w (λ o. refl) h (phone_step r w.phone input outcome) (turn_keeps same itself h.roots h.taken w.phone input outcome t h.phone)

    -- an event that reaches no actor
    by_world_fresh : (answer : Answer) → Fresh w → Fresh (by_world m w answer).0
    by_world_fresh answer h = record {
      roots = h.roots;
      taken = h.taken;
      given = h.given;
      counted = h.counted;
      phone = h.phone;
      core = h.core;
      stations = h.stations;
      up = h.up;
      nas = h.nas;
      down = h.down;
      sent = h.sent;
      took = h.took;
      apart = h.apart;
    }

    module _ (h : Fresh w) where
      -- what holds of one station
      abbrev Stands : Station Term ℕ → Type 0
      Stands s = StationStands h.taken h.given s × AllOf (λ u. u.dir ≡ Down → StationUse h.taken h.given s u) w.uses

      -- an act of a station
      act_turn : (id : ℕ) (act : StationAct) (s : Station Term ℕ) → Found w Stands id s → Fresh (turn_of m w id (StationActs act) None (Some s)).0
      act_turn id act s f =
          let outcome = opener (station_opens r s (StationActs act)) [] None in
          station_fresh m w (λ o. refl) h id s (station_step r s (StationActs act) outcome) f.own f.holds.1
          (station.act_keeps h.taken h.given same s f.holds.0 act _ (station_act_has r s act))

      -- a record that comes to a station
      record_turn : (interface : Interface) (id : ℕ) (read : Result (Content Term ℕ) RecFault) →
          ReadStands h.given (address_on interface id) read → (came : Option (Outgoing Term ℕ)) →
          (s : Station Term ℕ) → Found w Stands id s → Fresh (turn_of m w id (StationRecord interface read) came (Some s)).0
      record_turn interface id (Err fault) b came s f =
          let outcome = opener (station_opens r s (StationRecord interface (Err fault))) [] came in
          station_fresh m w (λ o. refl) h id s (station_step r s (StationRecord interface (Err fault)) outcome) f.own f.holds.1
          (station.record_keeps h.taken h.given same (RecordRefused (BadRecord fault)) None s tt f.holds.0)
      record_turn interface id (Ok content) b came s f =
          let outcome = opener (station_opens r s (StationRecord interface (Ok content))) [] came in
          station_fresh m w (λ o. refl) h id s (station_step r s (StationRecord interface (Ok content)) outcome) f.own f.holds.1
          (station.record_keeps h.taken h.given same _ content.key s
          (record_needs h.given s (address_on interface id)
          (subst (GoesHere (address_on interface id)) (sym f.own) (goes_here interface id)) r interface
          content.fields content.key b)
          f.holds.0)

      -- a PDU that comes to a station: here alone it matters that what is accepted was sealed so
      air_turn : (id air : ℕ) (bearer : Bearer) (pdu : List ℕ) (came : Option (Outgoing Term ℕ)) → Came h.taken h.given (at.StationAir id air bearer) came →
          (s : Station Term ℕ) → Found w Stands id s →
          SealedAsAccepted m (attempts_at m (AirPdu air bearer pdu) came (Some s)) →
          Fresh (turn_of m w id (AirPdu air bearer pdu) came (Some s)).0
      air_turn id air bearer pdu came c s f honest =
          let (stands, drawn) = f.holds in
          let outcome = opener (station_opens r s (AirPdu air bearer pdu)) pdu came in
          station_fresh m w (λ o. refl) h id s (station_step r s (AirPdu air bearer pdu) outcome) f.own drawn
          (station.air_keeps h.taken h.given same s stands air (which bearer) pdu outcome _ (air_has r s air (which bearer) pdu outcome)
          (air_row_needs h.taken s air r (which bearer) pdu outcome stands.1
          (λ u e. subst (λ i. OnKey (λ t type. h.taken t ≡ Some (home_at i air)) u.key) (sym f.own)
          (came_there h.taken h.given id air bearer u came c (honest u (accepts_up s _ outcome u e) e)))))

    -- ARRIVALS

    -- a record on S1 or X2 reads as it was sent
    content_stands : (h : Fresh w) (to : Address) (came : Option (Outgoing Term ℕ)) → Came h.taken h.given to came → ReadStands h.given to (content_in m came)
    content_stands h to (Some (Between to' fields key)) k = subst (λ a. BetweenStands h.given a fields key) k.0 k.1
    content_stands h to other k = tt

    -- an authentication
    auth_fresh : (ksi : ℕ) (octets' : List ℕ) (caps : Caps) → Fresh w → Fresh (authenticated m w ksi (Root (next_root w) octets') caps).0
    auth_fresh ksi octets' caps h =
        let root = Root (next_root w) octets' in record {
          roots = h.roots + 1;
          taken = h.taken;
          given = h.given;
          counted = one_root_more w.history root ∙ ap (λ n. n + 1) h.counted;
          phone = phone_more h.roots root h.counted h.taken ksi w.phone h.phone;
          core = core_more h.roots root h.counted h.given ksi caps w.core h.core;
          stations = h.stations;
          up =
              all_map (λ u. u.dir ≡ Up → UpUse h.roots h.taken w.phone u) (λ u. u.dir ≡ Up
              → UpUse (h.roots + 1) h.taken (record w.phone { partial = Some (record { ksi = ksi; root = root }) }) u)
              (λ u x e. up_more h.roots root h.counted h.taken ksi w.phone u (x e)) w.uses h.up;
          nas = all_map (λ u. u.dir ≡ Down → CoreUse h.roots w.core u)
              (λ u. u.dir ≡ Down
              → CoreUse (h.roots + 1) (record w.core {
                latest = caps;
                partial = Some (record { ksi = ksi; root = root; caps = caps; send = 0 });
                procedure = None;
              })
              u)
              (λ u x e. nas_more h.roots root h.counted ksi caps w.core u (x e)) w.uses h.nas;
          down = h.down;
          sent = h.sent;
          took = h.took;
          apart = h.apart;
        }

    -- EVENTS

    -- each turn; the core's need no premise either
    turns : (h : Fresh w) → Turns m w (λ e. ⊤) (λ to pdu came. Came h.taken h.given to came) (Stands h) (λ done a. SealedAsAccepted m a → Fresh done.0)
    turns h = record {
      auth = λ ksi octets' caps is new honest. auth_fresh ksi octets' caps h;
      phone = λ input came turn is honest. phone_turn_fresh input came turn h;
      core_acts = λ act is honest.
          core_fresh m w (λ o. refl) h (core_step r w.core (CoreActs act) (opener (core_opens r w.core (CoreActs act)) [] None))
          (core_act_keeps h.roots h.given same w.core act _ (act_has r w.core act) h.core);
      core_nas = λ pdu came is honest.
          let outcome = opener (core_opens r w.core (CoreNasPdu pdu)) pdu came in
          core_fresh m w (λ o. refl) h (core_step r w.core (CoreNasPdu pdu) outcome)
          (core_nas_keeps h.roots h.given same w.core pdu outcome _ (nas_has r w.core pdu outcome) h.core);
      core_record = λ pdu came is honest.
          let read = content_in m came in
          core_fresh m w (λ o. refl) h (core_step r w.core (CoreRecord read) (opener (core_opens r w.core (CoreRecord read)) [] came))
          (core_record_keeps h.roots h.given same _ w.core h.core);
      station_acts = λ id act is s f honest. act_turn h id act s f;
      station_air = λ id air bearer pdu came is s f honest. air_turn h id air bearer pdu came is s f honest;
      station_record = λ on id pdu came is s f honest. record_turn h on id (content_in m came) (content_stands h (address_on on id) came is) came s f;
      none = λ answer honest. by_world_fresh answer h;
    }

    -- an event
    pub happens_fresh : (e : Event) → SentUnder m w e → Fresh w → Fresh (happens m w e).0
    happens_fresh e honest h =
        happens_by (turns h) (λ to pdu. tt)
        (all_map (RecordStands h.taken h.given) (λ x. (address_of x ≡ address_of x) × RecordStands h.taken h.given x) (λ x k. (refl, k)) w.sent h.sent)
        (all_both (StationStands h.taken h.given)
        (λ s. AllOf (λ u. u.dir ≡ Down → StationUse h.taken h.given s u) w.uses) (Stands h) (λ s x y. (x, y))
        w.stations h.stations h.down)
        e tt honest

  -- RUNS

  -- a run
  pub run_fresh : (w : World Term ℕ (Outgoing Term ℕ)) (es : List Event) → AllSentUnder m w es → Fresh w → Fresh (run m w es)
  run_fresh w [] honest h = h
  run_fresh w (e ∷ es) honest h = run_fresh (happens m w e).0 es honest.1 (happens_fresh w e honest.0 h)
