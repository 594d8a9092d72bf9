-- The chain numbers in every world of every run.
use Rattle.std.proofs.Common.{◌≡◌, refl, sym, ap, ◌∙◌, ℕ, ◌≤◌, ◌==◌, Bool, false, List, [], ◌∷◌, Option, Some, None, Err, le_trans, arith}
use Rattle.std.proofs.lemmas.Bool.Decides.{nat_tests}
use Rattle.std.specs.Prelude.{⊤}
use Rattle.alg_choice.specs.declared.caps.Caps.{Caps}
use Rattle.rec_base.specs.declared.faults.RecFault.{RecFault}
use Rattle.lte_events.specs.{declared.acts.CoreAct.CoreAct, declared.addresses.Address.Address, declared.answers.Answer.Answer, declared.events.Event.Event, declared.setups.Setup.Setup, declared.setups.StationSetup.StationSetup, Site.Site}
use Rattle.key_model.specs.{Term.Term, Term.Root, HandoverTable.NumberedKey, Reading.term_reading_by}
use Rattle.s1x2_rec.specs.Fields.{Fields, PathSwitchRequest, PathSwitchAnswer}
use Rattle.lte_machine.specs.Wire.{KeyUse, Outgoing, Between, address_of}
use Rattle.lte_machine.specs.{Ciphers.Ciphers, Ciphers.octets_of, Reply.Reply, PhoneState.Phone, PhoneState.PhoneInput, PhoneChoice.phone_row, Run.stations_of, Run.first_world}
use Rattle.lte_machine.specs.Opening.{Opening, Outcome, Opened, open_octets, open_by_uses}
use Rattle.lte_machine.specs.PhoneStep.{plain_phone, front_of, phone_root, phone_opens, phone_pdu_in, phone_step}
use Rattle.lte_machine.specs.StationState.{Station, Context, StationInput, StationActs, AirPdu, StationRecord, Interface}
use Rattle.lte_machine.specs.StationStep.{station_opens, station_pdu_in, station_step}
use Rattle.lte_machine.specs.CoreState.{Core, CoreInput, CoreAuth, CoreActs, CoreNasPdu, CoreRecord}
use Rattle.lte_machine.specs.CoreStep.{core_opens, core_pdu_in, core_step}
use Rattle.lte_machine.specs.World.{Machine, World, with_one, phone_after, core_after, station_after, by_world, phone_turn, core_turn, turn_of, authenticated, next_root, content_in, happens}
use Rattle.lte_machine.specs.Machines.{content_of, sender_of, machine_over, opening_by_octets}
use Rattle.lte_properties.specs.ChainBelow.{AllOf, AtMost, ContextBelow, PrepBelow, StationBelow, conn_of, RecordBelow}
use Rattle.lte_properties.specs.ChainAbove.{StationAbove, InFlight}
use Rattle.lte_properties.specs.ChainHolds.{machine_by, run, noted, core_numbers, Holds, ChainNumbersHold}
use Rattle.lte_properties.proofs.ChainNumbers.Lists.{OfSome, all_one, all_map, all_both, all_put, all_each, each_of}
use Rattle.lte_properties.proofs.{ChainNumbers.Moves.flight_moves, ChainNumbers.Station.OwnRequest, ChainNumbers.Station.SentOk}
use Rattle.lte_properties.proofs.ChainNumbers.Core.{CoreKept, CoreStepKept, Plainly, each_weaker, core_auth_kept, core_act_kept, core_nas_kept, core_unread_kept, core_record_kept, silent_kept}
use Rattle.lte_properties.proofs.ChainNumbers.Needs.{StepKept, act_step_kept, air_step_kept, record_step_kept, unread_step_kept, phone_does_plain}
use Rattle.lte_machine.proofs.Routing.{address_on, Found, Turns, happens_by}
use Rattle.lte_machine.proofs.Worlds.{TheWorld}

-- a station's request is no other station's
other_flies : (u : Station Term ℕ) (id : ℕ) (x : Outgoing Term ℕ) → (u.id ≡ id → ⊥) → OwnRequest id x → InFlight u x
other_flies u id (Between to (PathSwitchRequest conn station number cell caps) key) f h = λ e. absurd (f (sym e ∙ h))
other_flies u id (Between to (PathSwitchAnswer conn number) (Some pair)) f h = absurd h
other_flies u id other f h = tt

-- A GREATER NUMBER

module _ (top new : ℕ → ℕ) (le : (conn : ℕ) → top conn ≤ new conn) where
  context_rises : (o : Option (Context Term ℕ)) → ContextBelow top o → ContextBelow new o
  context_rises None h = tt
  context_rises (Some c) h = each_weaker (AtMost (top c.conn)) (AtMost (new c.conn)) (λ n k. le_trans k (le c.conn)) c h

  station_rises : (s : Station Term ℕ) → StationBelow top s → StationBelow new s
  station_rises s h = (context_rises s.context h.0, all_map (PrepBelow top) (PrepBelow new) (λ p k. le_trans k (le p.conn)) s.preps h.1)

  record_rises : (x : Outgoing Term ℕ) → RecordBelow top x → RecordBelow new x
  record_rises (Between to fields (Some key)) h = le_trans h (le (conn_of fields))
  record_rises other h = tt

-- what holds, holds with the core's present number noted
noted_holds : (top : ℕ → ℕ) (w : World Term ℕ (Outgoing Term ℕ)) → Holds top w → Holds (noted w.core.link top) w
noted_holds top w h =
    let k = silent_kept top (λ u. ⊤) w.core h.core w.core refl refl in
    record {
      core = k.core;
      below = all_map (StationBelow top) (StationBelow (noted w.core.link top)) (station_rises top (noted w.core.link top) k.rises) w.stations h.below;
      above = h.above;
      sent = all_map (RecordBelow top) (RecordBelow (noted w.core.link top)) (record_rises top (noted w.core.link top) k.rises) w.sent h.sent;
      flight = h.flight;
    }

-- each station fits the records of the world and one more
flight_one : (x : Option (Outgoing Term ℕ)) (w : World Term ℕ (Outgoing Term ℕ)) → AllOf (λ s. OfSome (InFlight s) x) w.stations →
    AllOf (λ s. AllOf (InFlight s) w.sent) w.stations → AllOf (λ s. AllOf (InFlight s) (with_one x w.sent)) w.stations
flight_one x w h k =
    all_both (λ s. OfSome (InFlight s) x) (λ s. AllOf (InFlight s) w.sent) (λ s. AllOf (InFlight s) (with_one x w.sent))
    (λ s f g. all_one (InFlight s) x w.sent g f) w.stations h k

-- a record fits a station that fits all that was sent
abbrev pub FitsAll : World Term ℕ (Outgoing Term ℕ) → Outgoing Term ℕ → Type 0
FitsAll w x = (s : Station Term ℕ) → AllOf (InFlight s) w.sent → InFlight s x

is_not : (a b : ℕ) → (a == b) ≡ false → a ≡ b → ⊥
is_not a b e f = grind (arith, nat_tests)

module _ (same : Term → Term → Bool) (root : ℕ → List ℕ → Term) (octets : Outgoing Term ℕ → List ℕ)
    (sender : Option (Outgoing Term ℕ) → Option (KeyUse Term))
    (opener : Opening Term → List ℕ → Option (Outgoing Term ℕ) → Outcome) where
  abbrev m : Machine Term ℕ (Outgoing Term ℕ)
  m = machine_by same root octets sender opener

  -- THE STEP OF ONE ACTOR

  phone_after_holds : (top : ℕ → ℕ) (w : TheWorld) (d : Phone Term ℕ × Reply Term ℕ) → Plainly d.1.sent → Holds top w → Holds top (phone_after m w d).0
  phone_after_holds top w d p h = record {
    core = h.core;
    below = h.below;
    above = h.above;
    sent = all_one (RecordBelow top) d.1.sent w.sent h.sent (p.0 top);
    flight = flight_one d.1.sent w (all_each (λ s. OfSome (InFlight s) d.1.sent) p.1 w.stations) h.flight;
  }

  core_after_holds : (top : ℕ → ℕ) (A : Station Term ℕ → Type 0) (w : TheWorld) (d : Core Term ℕ × Reply Term ℕ) →
      CoreKept top A d.0 d.1.sent → AllOf A w.stations →
      Holds top w → Holds (noted d.0.link top) (core_after m w d).0
  core_after_holds top A w d k a h = record {
    core = k.core;
    below = all_map (StationBelow top) (StationBelow (noted d.0.link top)) (station_rises top (noted d.0.link top) k.rises) w.stations h.below;
    above = h.above;
    sent = all_one (RecordBelow (noted d.0.link top)) d.1.sent w.sent
        (all_map (RecordBelow top) (RecordBelow (noted d.0.link top)) (record_rises top (noted d.0.link top) k.rises) w.sent h.sent) k.sends;
    flight = flight_one d.1.sent w
        (all_both (StationBelow top) A (λ s. OfSome (InFlight s) d.1.sent) (λ s b f. k.flies s b.0 f) w.stations h.below a) h.flight;
  }

  -- what a station sends
  sent_below : (top : ℕ → ℕ) (t : Station Term ℕ) (x : Option (Outgoing Term ℕ)) → SentOk top t x → OfSome (RecordBelow top) x
  sent_below top t None h = tt
  sent_below top t (Some x) h = h.0

  sent_flies : (top : ℕ → ℕ) (t : Station Term ℕ) (x : Option (Outgoing Term ℕ)) → SentOk top t x → OfSome (InFlight t) x
  sent_flies top t None h = tt
  sent_flies top t (Some x) h = h.1

  sent_elsewhere : (top : ℕ → ℕ) (t u : Station Term ℕ) (x : Option (Outgoing Term ℕ)) → (u.id ≡ t.id → ⊥) → SentOk top t x → OfSome (InFlight u) x
  sent_elsewhere top t u None f h = tt
  sent_elsewhere top t u (Some x) f h = other_flies u t.id x f h.2

  station_after_holds : (top : ℕ → ℕ) (w : TheWorld) (id : ℕ) (s : Station Term ℕ) (d : Station Term ℕ × Reply Term ℕ) → s.id ≡ id → StepKept top s d →
      AllOf (InFlight s) w.sent → Holds top w → Holds top (station_after m w id d).0
  station_after_holds top w id s d e k f h = record {
    core = h.core;
    below = all_put (StationBelow top) (StationBelow top) id d.0 w.stations k.below (λ u n b. b) h.below;
    above = all_put StationAbove StationAbove id d.0 w.stations k.above (λ u n b. b) h.above;
    sent = all_one (RecordBelow top) d.1.sent w.sent h.sent (sent_below top d.0 d.1.sent k.sends);
    flight = all_put (λ u. AllOf (InFlight u) w.sent) (λ u. AllOf (InFlight u) (with_one d.1.sent w.sent)) id d.0 w.stations
        (all_one (InFlight d.0) d.1.sent w.sent
        (all_map (InFlight s) (InFlight d.0) (flight_moves s d.0 k.same k.rises k.moves) w.sent f)
        (sent_flies top d.0 d.1.sent k.sends))
        (λ u n b. all_one (InFlight u) d.1.sent w.sent b (sent_elsewhere top d.0 u d.1.sent (λ g. is_not u.id id n (g ∙ k.same ∙ e)) k.sends))
        h.flight;
  }

  -- THE TURN OF AN ACTOR

  -- in a world where the core's present number is noted
  abbrev Now : (ℕ → ℕ) → TheWorld → Type 0
  Now top u = Holds (noted u.core.link top) u

  by_world_holds : (top : ℕ → ℕ) (w : TheWorld) (answer : Answer) → Holds top w → Now top (by_world m w answer).0
  by_world_holds top w answer h =
      noted_holds top (by_world m w answer).0 (record { core = h.core; below = h.below; above = h.above; sent = h.sent; flight = h.flight })

  -- what is asked of the station that takes a turn
  abbrev IsAt : (ℕ → ℕ) → TheWorld → Station Term ℕ → Type 0
  IsAt top w s = StationBelow top s × StationAbove s × AllOf (InFlight s) w.sent

  station_turn_holds : (top : ℕ → ℕ) (w : TheWorld) (id : ℕ) (input : StationInput Term ℕ)
      (came : Option (Outgoing Term ℕ)) (s : Station Term ℕ) → Found w (IsAt top w) id s →
      ((outcome : Outcome) → StepKept top s (station_step (term_reading_by same) s input outcome)) → Holds top w →
      Now top (turn_of m w id input came (Some s)).0
  station_turn_holds top w id input came s f step h =
      let outcome = opener (station_opens (term_reading_by same) s input) (station_pdu_in input) came in
      let d = station_step (term_reading_by same) s input outcome in
      noted_holds top (station_after m w id d).0 (station_after_holds top w id s d f.own (step outcome) f.holds.2 h)

  -- what comes to an address, if it was sent: a record to it that holds no greater number, and fits a station that fits all
  abbrev CameOk : (ℕ → ℕ) → TheWorld → Address → Option (Outgoing Term ℕ) → Type 0
  CameOk top w to came = OfSome (λ x. (address_of x ≡ to) × RecordBelow top x × FitsAll w x) came

  station_record_holds : (top : ℕ → ℕ) (w : TheWorld) (on : Interface) (id : ℕ) (came : Option (Outgoing Term ℕ)) →
      CameOk top w (address_on on id) came → (s : Station Term ℕ) → Found w (IsAt top w) id s →
      Holds top w → Now top (turn_of m w id (StationRecord on (content_in m came)) came (Some s)).0
  station_record_holds top w on id None c s f h =
      station_turn_holds top w id (StationRecord on (Err RecFault.Short)) None s f (unread_step_kept top same s f.holds.0 f.holds.1 on RecFault.Short) h
  station_record_holds top w on id (Some x) c s f h =
      station_turn_holds top w id (StationRecord on (content_of x)) (Some x) s f
      (λ outcome. record_step_kept top same s f.holds.0 f.holds.1 on x outcome (c.0 ∙ ap (address_on on) (sym f.own)) c.1 (c.2 s f.holds.2)) h

  phone_turn_holds : (top : ℕ → ℕ) (w : TheWorld) (input : PhoneInput Term) (came : Option (Outgoing Term ℕ))
      → Holds top w
      → Now top (phone_turn m w input came).0
  phone_turn_holds top w input came h =
      let outcome = opener (phone_opens (term_reading_by same) w.phone input) (phone_pdu_in input) came in
      let d = phone_step (term_reading_by same) w.phone input outcome in
      let row = phone_row (plain_phone (term_reading_by same) w.phone) (front_of (term_reading_by same) w.phone input) outcome in
      noted_holds top (phone_after m w d).0 (phone_after_holds top w d (phone_does_plain same row (phone_root input) w.phone) h)

  core_turn_holds : (top : ℕ → ℕ) (w : TheWorld) (A : Station Term ℕ → Type 0) (input : CoreInput Term ℕ) (came : Option (Outgoing Term ℕ)) →
      ((outcome : Outcome) → CoreStepKept top same w.core A input outcome) → AllOf A w.stations → Holds top w → Now top (core_turn m w input came).0
  core_turn_holds top w A input came k a h =
      let outcome = opener (core_opens (term_reading_by same) w.core input) (core_pdu_in input) came in
      core_after_holds top A w (core_step (term_reading_by same) w.core input outcome) (k outcome) a h

  -- of every station
  each : (w : TheWorld) → AllOf (λ s. ⊤) w.stations
  each w = all_each (λ s. ⊤) (λ s. tt) w.stations

  core_record_holds : (top : ℕ → ℕ) (w : TheWorld) (came : Option (Outgoing Term ℕ))
      → CameOk top w Address.CoreS1 came
      → Holds top w
      → Now top (core_turn m w (CoreRecord (content_in m came)) came).0
  core_record_holds top w None c h =
      core_turn_holds top w (λ u. ⊤) (CoreRecord (Err RecFault.Short)) None (core_unread_kept top same w.core h.core (λ u. ⊤) RecFault.Short) (each w) h
  core_record_holds top w (Some x) c h =
      core_turn_holds top w (λ u. InFlight u x) (CoreRecord (content_of x)) (Some x) (core_record_kept top same w.core h.core x)
      (all_map (λ s. AllOf (InFlight s) w.sent) (λ s. InFlight s x) (λ s f. c.2 s f) w.stations h.flight) h

  core_acts_holds : (top : ℕ → ℕ) (w : TheWorld) (act : CoreAct) (came : Option (Outgoing Term ℕ)) → Holds top w → Now top (core_turn m w (CoreActs act) came).0
  core_acts_holds top w act came h = core_turn_holds top w (λ u. ⊤) (CoreActs act) came (core_act_kept top same w.core h.core act) (each w) h

  core_nas_holds : (top : ℕ → ℕ) (w : TheWorld) (pdu : List ℕ) (came : Option (Outgoing Term ℕ)) → Holds top w → Now top (core_turn m w (CoreNasPdu pdu) came).0
  core_nas_holds top w pdu came h = core_turn_holds top w (λ u. ⊤) (CoreNasPdu pdu) came (core_nas_kept top same w.core h.core pdu) (each w) h

  -- AN EVENT

  authenticated_holds : (top : ℕ → ℕ) (w : TheWorld) (ksi : ℕ) (key : Term) (caps : Caps) → Holds top w → Now top (authenticated m w ksi key caps).0
  authenticated_holds top w ksi key caps h =
      let k = core_auth_kept top same w.core h.core ksi key caps (Opened []) in
      let new = noted (core_step (term_reading_by same) w.core (CoreAuth ksi key caps) (Opened [])).0.link top in
      record {
        core = k.core;
        below = all_map (StationBelow top) (StationBelow new) (station_rises top new k.rises) w.stations h.below;
        above = h.above;
        sent = all_map (RecordBelow top) (RecordBelow new) (record_rises top new k.rises) w.sent h.sent;
        flight = h.flight;
      }

  turns : (top : ℕ → ℕ) (w : TheWorld) → Holds top w → Turns m w (λ e. ⊤) (λ to pdu came. CameOk top w to came) (IsAt top w) (λ done a. Now top done.0)
  turns top w h = record {
    auth = λ ksi key caps is new. authenticated_holds top w ksi (root (next_root w) key) caps h;
    phone = λ input came turn is. phone_turn_holds top w input came h;
    core_acts = λ act is. core_acts_holds top w act None h;
    core_nas = λ pdu came is. core_nas_holds top w pdu came h;
    core_record = λ pdu came is. core_record_holds top w came is h;
    station_acts = λ id act is s f. station_turn_holds top w id (StationActs act) None s f (act_step_kept top same s f.holds.0 f.holds.1 act) h;
    station_air = λ id air bearer pdu came is s f.
        station_turn_holds top w id (AirPdu air bearer pdu) came s f
        (air_step_kept top same s f.holds.0 f.holds.1 air bearer pdu) h;
    station_record = λ on id pdu came is s f. station_record_holds top w on id came is s f h;
    none = λ answer. by_world_holds top w answer h;
  }

  -- every event keeps it
  pub happens_holds : (top : ℕ → ℕ) (w : TheWorld) (e : Event) → Holds top w → Now top (happens m w e).0
  happens_holds top w e h =
      happens_by (turns top w h) (λ to pdu. tt)
      (all_both (RecordBelow top) (FitsAll w) (λ x. (address_of x ≡ address_of x) × RecordBelow top x × FitsAll w x)
      (λ x b f. (refl, b, f)) w.sent h.sent (each_of InFlight w.sent))
      (all_both (StationBelow top) (λ s. StationAbove s × AllOf (InFlight s) w.sent) (IsAt top w) (λ s b a. (b, a.0, a.1)) w.stations h.below
      (all_both StationAbove (λ s. AllOf (InFlight s) w.sent) (λ s. StationAbove s × AllOf (InFlight s) w.sent)
      (λ s a f. (a, f)) w.stations h.above h.flight))
      e tt

  -- every run keeps it
  pub run_holds : (top : ℕ → ℕ) (w : TheWorld) (es : List Event) → Holds top w → Holds (core_numbers m w top es) (run m w es)
  run_holds top w [] h = h
  run_holds top w (e ∷ es) h =
      let u = (happens m w e).0 in run_holds (noted u.core.link top) u es (happens_holds top w e h)

-- THE FIRST WORLD

stations_below : (sites : List Site) (ss : List StationSetup) → AllOf (StationBelow (λ conn. 0)) (stations_of sites ss)
stations_below sites [] = tt
stations_below sites (s ∷ ss) = ((tt, tt), stations_below sites ss)

stations_above : (sites : List Site) (ss : List StationSetup) → AllOf StationAbove (stations_of sites ss)
stations_above sites [] = tt
stations_above sites (s ∷ ss) = ((tt, tt), stations_above sites ss)

stations_quiet : (sites : List Site) (ss : List StationSetup) → AllOf (λ s. AllOf (InFlight s) []) (stations_of sites ss)
stations_quiet sites [] = tt
stations_quiet sites (s ∷ ss) = (tt, stations_quiet sites ss)

-- before the first event every number is 0
pub first_holds : (setup : Setup) → Holds (λ conn. 0) (first_world setup)
first_holds setup = record {
  core = (tt, λ conn le. refl);
  below = stations_below setup.cells setup.stations;
  above = stations_above setup.cells setup.stations;
  sent = tt;
  flight = stations_quiet setup.cells setup.stations;
}

-- every run of any machine over terms
pub chain_numbers_hold_by : (same : Term → Term → Bool) (root : ℕ → List ℕ → Term) (octets : Outgoing Term ℕ → List ℕ)
    (sender : Option (Outgoing Term ℕ) → Option (KeyUse Term))
    (opener : Opening Term → List ℕ → Option (Outgoing Term ℕ) → Outcome) (setup : Setup) (events : List Event) →
    ChainNumbersHold (machine_by same root octets sender opener) setup events
chain_numbers_hold_by same root octets sender opener setup events =
    run_holds same root octets sender opener (λ conn. 0) (first_world setup) events (first_holds setup)

-- every run of the written machine, whichever test says that two keys are one, and where octets open by themselves
pub chain_numbers_hold : (same : Term → Term → Bool) (c : Ciphers Term)
    (between : Fields → Option (NumberedKey Term ℕ) → List ℕ) (setup : Setup) (events : List Event) →
    ChainNumbersHold (machine_over same c between) setup events
chain_numbers_hold same c between setup events =
    chain_numbers_hold_by same Root (octets_of c between) sender_of (open_by_uses same c) setup events

pub chain_numbers_hold_in_octets : (same : Term → Term → Bool) (c : Ciphers Term)
    (between : Fields → Option (NumberedKey Term ℕ) → List ℕ) (setup : Setup) (events : List Event) →
    ChainNumbersHold (opening_by_octets same c between) setup events
chain_numbers_hold_in_octets same c between setup events =
    chain_numbers_hold_by same Root (octets_of c between) sender_of (λ opening pdu came. open_octets c opening pdu) setup events
