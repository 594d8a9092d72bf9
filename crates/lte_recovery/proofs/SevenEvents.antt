-- The seven events one after the other.
use Rattle.std.proofs.Common.{◌≡◌, ℕ, ◌+◌, ◌-◌, Bool, true, false, cond, List, [], ◌∷◌, ◌++◌, length, Option, Some, None, Ok, refl, ap, sym, subst, ◌∙◌, arith, negsuc}
use Rattle.std.specs.Prelude.{◌==◌, nat_lt, slice_get}
use Rattle.std.proofs.{lemmas.Bool.Decides.nat_tests, lemmas.List.length-append}
use Rattle.annex_a_keys.specs.Cell.{Place}
use Rattle.alg_choice.specs.Choice.{are_supported}
use Rattle.rec_base.specs.declared.bearers.Bearer.TheVariants.{Srb1}
use Rattle.rec_base.specs.declared.uses.Dir.TheVariants.{Up, Down}
use Rattle.lte_events.specs.{declared.acts.CoreAct.CoreAct, declared.acts.PhoneAct.PhoneAct, declared.addresses.Address.TheVariants.StationS1, declared.events.Event.Event}
use Rattle.key_model.specs.{HandoverTable.NumberedKey, Term.Term, Term.Kenb, Reading.Reading, Reading.term_reading_by}
use Rattle.nas_rec.specs.{declared.records.NasRecord.TheVariants.ServiceRequest, Spelling.spelling_of as nas_spelling}
use Rattle.nas_rec.proofs.Laws.{spelled_is_read as nas_is_read}
use Rattle.nas_guard.specs.Keys.{Keys}
use Rattle.pdcp_guard.specs.AsKeys.{as_keys_of}
use Rattle.rrc_rec.specs.declared.records.RrcRecord.TheVariants.{SecurityModeCommand, SecurityModeComplete}
use Rattle.rrc_rec.specs.{Reading.read_rrc, Spelling.spelling_of as rrc_spelling}
use Rattle.rrc_rec.proofs.Laws.{spelled_is_read as rrc_is_read}
use Rattle.s1x2_rec.specs.Fields.{Fields, InitialContext}
use Rattle.lte_machine.specs.{Bearers.Signalling1, StationRecords.initial_context, StationRecords.security_command, StationKeys.with_security, CoreState.Core, CoreState.CoreActs, PhoneStep.phone_opens, CoreStep.core_step, CoreStep.core_opens, CoreKeys.chain_from, CoreKeys.nas_taken, Machines.machine_by, Reply.Reply, Run.run}
use Rattle.lte_machine.specs.Wire.{KeyUse, nas_use, srb_use, Outgoing, SealedRrc, Between}
use Rattle.lte_machine.specs.Ciphers.{Ciphers, octets_of, nas_octets, srb_octets}
use Rattle.lte_machine.specs.Opening.{Opening, OpensNas, OpensSrb, Outcome}
use Rattle.lte_machine.specs.PhoneState.{Link, Connected, Phone, PhoneActs}
use Rattle.lte_machine.specs.StationState.{Station, Context, StationInput, StationRecord, AirPdu, OnS1}
use Rattle.lte_machine.specs.StationStep.{station_step, station_opens, station_pdu_in}
use Rattle.lte_machine.specs.World.{Machine, happens, delivery, record_at, newest_if, with_one, put_if, put_station, station_of_id, turn_of, station_turn, station_after}
use Rattle.lte_machine.proofs.CipherLaws.{AreCiphers}
use Rattle.lte_properties.proofs.{Agreement.Opener.octets_tell, Opening.Opens.OpensBack}
use Rattle.lte_properties.proofs.Opening.Counts.{estimated, nas_parts, header_up, srb_counted}
use Rattle.lte_recovery.specs.Reconnection.{TheWorld, newest, reconnect, CanReconnect, Recovers}
use Rattle.lte_recovery.proofs.PhoneSteps.{Goes, idle_of, asking_of, request_of, link_of, phone_idles, phone_asks, phone_takes}
use Rattle.lte_recovery.proofs.CoreSteps.{asked_of, core_asked, core_connects}
use Rattle.lte_recovery.proofs.StationSteps.{given_of, station_gives, station_starts}

-- THE NEWEST RECORD

at_end : {A : Type 0} (xs : List A) (x : A) → slice_get (xs ++ x ∷ []) (length xs) ≡ Some x
at_end [] x = refl
at_end (y ∷ ys) x = at_end ys x

pub newest_is : {A : Type 0} (xs : List A) (x : A) → record_at (negsuc 0) (xs ++ x ∷ []) ≡ Some x
newest_is xs x =
    let long : length (xs ++ x ∷ []) ≡ length xs + 1 = length-append xs (x ∷ []) in
    let some : nat_lt 0 (length (xs ++ x ∷ [])) ≡ true = grind (arith, nat_tests) in
    let place : length (xs ++ x ∷ []) - 1 - 0 ≡ length xs = omega arith in
    (λ j. newest_if (some j) (place j) (xs ++ x ∷ [])) ∙ at_end xs x

pub sent_newest : {A : Type 0} (o : Option A) (xs : List A) (x : A) → o ≡ Some x → record_at (negsuc 0) (with_one o xs) ≡ Some x
sent_newest o xs x is = ap (λ y. record_at (negsuc 0) (with_one y xs)) is ∙ newest_is xs x

own_number : (n : ℕ) → (n == n) ≡ true
own_number n = grind (arith, nat_tests)

-- A STATION PUT IN ITS PLACE is found there
put_found : (id : ℕ) (new s : Station Term ℕ) (ss : List (Station Term ℕ)) → (new.id == id) ≡ true → station_of_id id ss ≡ Some s
    → station_of_id id (put_station id new ss) ≡ Some new
put_found id new s [] is e = absurd cc
put_found id new s (z ∷ zs) is e = step (z.id == id) refl e (put_found id new s zs is)
  where
    step : (b : Bool) → (z.id == id) ≡ b
        → cond b (Some z) (station_of_id id zs) ≡ Some s
        → (station_of_id id zs ≡ Some s → station_of_id id (put_station id new zs) ≡ Some new)
        → cond ((put_if b new z).id == id) (Some (put_if b new z)) (station_of_id id (put_station id new zs)) ≡ Some new
    step true at f rest = ap (λ b. cond b (Some new) (station_of_id id (put_station id new zs))) is
    step false at f rest = ap (λ b. cond b (Some z) (station_of_id id (put_station id new zs))) at ∙ rest f

module _ (same : Term → Term → Bool) (root : ℕ → List ℕ → Term)
    (sender : Option (Outgoing Term ℕ) → Option (KeyUse Term))
    (opener : Opening Term → List ℕ → Option (Outgoing Term ℕ) → Outcome) (c : Ciphers Term) (good : AreCiphers c)
    (back : OpensBack c opener) (between : Fields → Option (NumberedKey Term ℕ) → List ℕ) where
  abbrev m : Machine Term ℕ (Outgoing Term ℕ)
  m = machine_by same root (octets_of c between) sender opener

  abbrev r : Reading Term ℕ
  r = term_reading_by same

  -- the world after an event
  abbrev after : TheWorld → Event → TheWorld
  after w e = (happens m w e).0

  -- an act of the phone opens nothing
  abbrev alone : TheWorld → PhoneAct → Outcome
  alone w act = opener (phone_opens r w.phone (PhoneActs act)) [] None

  abbrev core_alone : TheWorld → CoreAct → Outcome
  core_alone w act = opener (core_opens r w.core (CoreActs act)) [] None

  module _ (w : TheWorld) (cell : Place) (h : CanReconnect w cell) where
    abbrev kenb : Term
    kenb = Kenb h.core.nas.root h.phone.send

    -- 1: it is idle
    record IsIdle (u : TheWorld) : Type 0 where
      phone : u.phone ≡ idle_of w.phone
      core : u.core ≡ w.core
      stations : u.stations ≡ w.stations

    idles : IsIdle (after w (Event.Phone PhoneAct.GoIdle))
    idles = record { phone = phone_idles same w.phone (alone w PhoneAct.GoIdle); core = refl; stations = refl }

    -- 2: it asked
    record IsAsking (u : TheWorld) : Type 0 where
      phone : u.phone ≡ asking_of w.phone h.phone
      core : u.core ≡ w.core
      stations : u.stations ≡ w.stations
      sent : record_at (negsuc 0) u.sent ≡ Some (request_of h.phone)

    asks : (u : TheWorld) → IsIdle u → IsAsking (after u (Event.Phone PhoneAct.ServiceRequest))
    asks u k =
        let g = phone_asks same u.phone h.phone (alone u PhoneAct.ServiceRequest) (ap (λ p. p.radio) k.phone) (ap (λ p. p.context) k.phone ∙ h.at_phone) h.left in
        record {
          phone = g.0 ∙ ap (λ p. asking_of p h.phone) k.phone;
          core = k.core;
          stations = k.stations;
          sent = sent_newest _ u.sent (request_of h.phone) g.1;
        }

    -- 3: the core knows
    record IsAsked (u : TheWorld) : Type 0 where
      phone : u.phone ≡ asking_of w.phone h.phone
      core : u.core ≡ asked_of w.core h.core h.phone.send
      stations : u.stations ≡ w.stations

    arrives_at_core : (u : TheWorld) → u.core ≡ w.core → (delivery m u (Some (request_of h.phone))).0.core ≡ asked_of u.core h.core h.phone.send
    arrives_at_core u core =
        let under = nas_use Up h.phone.keys.int h.phone.send in
        let text = nas_spelling ServiceRequest in
        let x = request_of h.phone in
        let pdu = nas_octets c 1 under None text in
        let (first, sn, _, long) = nas_parts c good 1 under None text in
        core_asked same opener pdu (Some x) text u.core h.core h.phone.send
        (ap (λ k. k.context) core ∙ h.at_core)
        (header_up pdu 23 long first refl) long
        (estimated h.core.nas.receive _ h.phone.send h.window sn h.left)
        (ap (λ (k : Keys Term). opener (OpensNas (nas_use Up k.int h.phone.send) None) pdu (Some x)) h.keys
        ∙ back.nas under None pdu Up 1 text)
        (nas_is_read ServiceRequest tt)

    hears : (u : TheWorld) → IsAsking u → IsAsked (after u newest)
    hears u k = record {
      phone = ap (λ o. (delivery m u o).0.phone) k.sent ∙ k.phone;
      core = ap (λ o. (delivery m u o).0.core) k.sent ∙ arrives_at_core u k.core ∙ ap (λ s. asked_of s h.core h.phone.send) k.core;
      stations = ap (λ o. (delivery m u o).0.stations) k.sent ∙ k.stations;
    }

    -- 4: the core set up a connection
    abbrev linked : Core Term ℕ
    linked = record (asked_of w.core h.core h.phone.send) {
      trigger = None;
      next = w.core.next + 1;
      link = Some (record { conn = w.core.next; chain = chain_from r w.core.first_ncc h.core.nas.root kenb; station = h.station.id });
    }

    abbrev setup_sent : Outgoing Term ℕ
    setup_sent = Between (StationS1 h.station.id) (InitialContext w.core.next cell h.core.caps) (Some (record { key = kenb; number = 0 }))

    record IsLinked (u : TheWorld) : Type 0 where
      phone : u.phone ≡ asking_of w.phone h.phone
      core : u.core ≡ linked
      stations : u.stations ≡ w.stations
      sent : record_at (negsuc 0) u.sent ≡ Some setup_sent

    abbrev SetsUp : Core Term ℕ → Outcome → Type 0
    SetsUp k outcome = Goes (core_step r k (CoreActs (CoreAct.Connect cell)) outcome) linked (Some setup_sent)

    sets_up : (k : Core Term ℕ) (outcome : Outcome) → k ≡ asked_of w.core h.core h.phone.send → SetsUp k outcome
    sets_up k outcome is =
        subst (λ x. SetsUp x outcome) (sym is)
        (core_connects same (asked_of w.core h.core h.phone.send) (nas_taken h.phone.send h.core) cell h.station.id h.phone.send outcome
        refl refl h.serves h.numbers)

    connects : (u : TheWorld) → IsAsked u → IsLinked (after u (Event.Core (CoreAct.Connect cell)))
    connects u k =
        let g = sets_up u.core (core_alone u (CoreAct.Connect cell)) k.core in
        record {
          phone = k.phone;
          core = g.0;
          stations = k.stations;
          sent = sent_newest _ u.sent setup_sent g.1;
        }

    -- 5: the station made a context
    abbrev given : Station Term ℕ
    given = given_of same h.station w.core.next cell h.core.caps h.algs kenb

    abbrev command_sent : Outgoing Term ℕ
    command_sent = security_command h.station.id h.station.next (as_keys_of r kenb h.algs)

    record IsGiven (u : TheWorld) : Type 0 where
      phone : u.phone ≡ asking_of w.phone h.phone
      core : u.core ≡ linked
      there : station_of_id h.station.id u.stations ≡ Some given
      sent : record_at (negsuc 0) u.sent ≡ Some command_sent

    -- a record that comes to the station is a turn of it
    found : (u : TheWorld) (s : Station Term ℕ) (input : StationInput Term ℕ) (x : Outgoing Term ℕ) → station_of_id h.station.id u.stations ≡ Some s
        → station_turn m u h.station.id input (Some x)
        ≡ station_after m u h.station.id (station_step r s input (opener (station_opens r s input) (station_pdu_in input) (Some x)))
    found u s input x there = ap (turn_of m u h.station.id input (Some x)) there

    abbrev setup_in : StationInput Term ℕ
    setup_in = StationRecord OnS1 (Ok (record { fields = InitialContext w.core.next cell h.core.caps; key = Some (record { key = kenb; number = 0 }) }))

    abbrev GivenBy : (Station Term ℕ × Reply Term ℕ) → Type 0
    GivenBy d = Goes d given (Some command_sent)

    is_given : (u : TheWorld) (d : Station Term ℕ × Reply Term ℕ) → GivenBy d → IsLinked u → IsGiven (station_after m u h.station.id d).0
    is_given u d g k = record {
      phone = k.phone;
      core = k.core;
      there = put_found h.station.id d.0 h.station u.stations
          (ap (λ (s : Station Term ℕ). s.id == h.station.id) g.0 ∙ own_number h.station.id)
          (ap (station_of_id h.station.id) k.stations ∙ h.there)
          ∙ ap Some g.0;
      sent = sent_newest d.1.sent u.sent command_sent g.1;
    }

    gives : (u : TheWorld) → IsLinked u → IsGiven (after u newest)
    gives u k =
        let way : happens m u newest ≡ station_after m u h.station.id (station_step r h.station setup_in (opener (station_opens r h.station setup_in) [] (Some setup_sent))) =
        ap (delivery m u) k.sent ∙ found u h.station setup_in setup_sent (ap (station_of_id h.station.id) k.stations ∙ h.there) in
        subst (λ d. IsGiven d.0) (sym way)
        (is_given u (station_step r h.station setup_in (opener (station_opens r h.station setup_in) [] (Some setup_sent)))
        (station_gives same h.station w.core.next cell h.core.caps h.algs kenb 0 (opener (station_opens r h.station setup_in) [] (Some setup_sent))
        h.newer h.own h.chosen h.draws) k)

    -- 6: the phone took the key
    abbrev phone_kenb : Term
    phone_kenb = Kenb h.phone.root h.phone.send

    abbrev taken_link : Link Term ℕ
    taken_link = link_of same h.station.id h.station.next h.algs h.phone.root phone_kenb

    abbrev complete_under : KeyUse Term
    complete_under = srb_use Up (as_keys_of r phone_kenb h.algs).rrc_int Signalling1 0

    abbrev complete_sent : Outgoing Term ℕ
    complete_sent = SealedRrc Up h.station.id h.station.next Signalling1 complete_under None (rrc_spelling SecurityModeComplete)

    record IsTaken (u : TheWorld) : Type 0 where
      radio : u.phone.radio ≡ Connected taken_link
      core : u.core ≡ linked
      there : station_of_id h.station.id u.stations ≡ Some given
      sent : record_at (negsuc 0) u.sent ≡ Some complete_sent

    takes : (u : TheWorld) → IsGiven u → IsTaken (after u newest)
    takes u k =
        let under = srb_use Down (as_keys_of r kenb h.algs).rrc_int Signalling1 0 in
        let text = rrc_spelling (SecurityModeCommand h.algs h.station.id h.station.next) in
        let pdu = srb_octets c under None text in
        let g = phone_takes same opener pdu (Some command_sent) text u.phone (record { root = h.phone.root; kenb = phone_kenb })
        h.station.id h.station.next h.algs
        (ap (λ p. p.radio) k.phone)
        (srb_counted c good 0 under None text (omega arith, omega arith) (omega arith))
        (ap read_rrc ((octets_tell c good between).text Down h.station.id h.station.next Signalling1 under text)
        ∙ rrc_is_read (SecurityModeCommand h.algs h.station.id h.station.next) (h.few, (h.from_one, h.draws)))
        (ap (λ (p : Phone Term ℕ). are_supported p.caps h.algs) k.phone ∙ h.supported)
        (ap (λ t. opener (OpensSrb (srb_use Down (as_keys_of r (Kenb t h.phone.send) h.algs).rrc_int Signalling1 0) None) pdu (Some command_sent)) (sym h.root)
        ∙ back.srb under None pdu Down h.station.id h.station.next Signalling1 text) in
        subst (λ o. IsTaken (delivery m u o).0) (sym k.sent)
        (record {
          radio = ap (λ (p : Phone Term ℕ). p.radio) g.0;
          core = k.core;
          there = k.there;
          sent = sent_newest _ u.sent complete_sent g.1;
        })

    -- 7: the context is active
    abbrev context : Context Term ℕ
    context = initial_context r w.core.next cell h.core.caps h.algs h.station.next kenb

    abbrev active : Station Term ℕ
    active = record given { context = Some (with_security 0 context) }

    record IsActive (u : TheWorld) : Type 0 where
      radio : u.phone.radio ≡ Connected taken_link
      core : u.core ≡ linked
      there : station_of_id h.station.id u.stations ≡ Some active

    is_active : (u : TheWorld) (d : Station Term ℕ × Reply Term ℕ) → d.0 ≡ active → IsTaken u → IsActive (station_after m u h.station.id d).0
    is_active u d g k = record {
      radio = k.radio;
      core = k.core;
      there = put_found h.station.id d.0 given u.stations
          (ap (λ (s : Station Term ℕ). s.id == h.station.id) g ∙ own_number h.station.id) k.there
          ∙ ap Some g;
    }

    starts : (u : TheWorld) → IsTaken u → IsActive (after u newest)
    starts u k =
        let text = rrc_spelling SecurityModeComplete in
        let pdu = srb_octets c complete_under None text in
        let input : StationInput Term ℕ = AirPdu h.station.next Srb1 pdu in
        let outcome = opener (station_opens r given input) pdu (Some complete_sent) in
        let way : happens m u newest ≡ station_after m u h.station.id (station_step r given input outcome) =
        ap (delivery m u) k.sent ∙ found u given input complete_sent k.there in
        subst (λ d. IsActive d.0) (sym way)
        (is_active u (station_step r given input outcome)
        (station_starts same opener pdu (Some complete_sent) text given context h.station.next refl refl refl
        (srb_counted c good 0 complete_under None text (omega arith, omega arith) (omega arith))
        (ap (λ t. opener (OpensSrb (srb_use Up (as_keys_of r (Kenb t h.phone.send) h.algs).rrc_int Signalling1 0) None) pdu (Some complete_sent)) h.root
        ∙ back.srb complete_under None pdu Up h.station.id h.station.next Signalling1 text)
        (rrc_is_read SecurityModeComplete tt))
        k)

    reconnected : (u : TheWorld) → IsActive u → Recovers w cell h u
    reconnected u k = record {
      link = taken_link;
      is_connected = k.radio;
      at_station = refl;
      at_air = refl;
      kenb = refl;
      station = active;
      there = k.there;
      context = with_security 0 context;
      has = refl;
      same_air = refl;
      same_conn = refl;
      active = refl;
      no_attempt = refl;
      agree = (
        ap (λ t. Kenb t h.phone.send) (sym h.root),
        refl,
        ap (λ t. as_keys_of r (Kenb t h.phone.send) h.algs) (sym h.root),
        refl,
      );
      number = refl;
      algorithms = refl;
      core_link = record { conn = w.core.next; chain = chain_from r w.core.first_ncc h.core.nas.root kenb; station = h.station.id };
      at_core = ap (λ (s : Core Term ℕ). s.link) k.core;
      core_conn = refl;
      core_station = refl;
    }

    -- THE SEVEN EVENTS
    pub recovers : Recovers w cell h (run m w (reconnect cell))
    recovers =
        let u1 = after w (Event.Phone PhoneAct.GoIdle) in
        let u2 = after u1 (Event.Phone PhoneAct.ServiceRequest) in
        let u3 = after u2 newest in
        let u4 = after u3 (Event.Core (CoreAct.Connect cell)) in
        let u5 = after u4 newest in
        let u6 = after u5 newest in
        let u7 = after u6 newest in
        reconnected u7 (starts u6 (takes u5 (gives u4 (connects u3 (hears u2 (asks u1 idles))))))
