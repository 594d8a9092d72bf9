-- Every key of every world of every run was reported, and the rows of its ladder stand for the distinct terms.
use Rattle.std.proofs.Common.{◌≡◌, refl, ℕ, List, [], ◌∷◌, ◌++◌, map, Option, Some, None, option_map, inl}
use Rattle.std.specs.List.{AllByRecursion as AllOf}
use Rattle.alg_choice.specs.declared.caps.Caps.{Caps}
use Rattle.lte_events.specs.{declared.answers.Answer.Answer, declared.events.Event.Event, declared.setups.Setup.Setup, declared.setups.StationSetup.StationSetup, Site.Site}
use Rattle.key_model.specs.{Derivation.Derivation, HandoverTable.NumberedKey, Reading.Reading, Reading.term_reading_by, Term.Term, Value.same_value}
use Rattle.lte_machine.specs.Wire.{KeyUse, Outgoing, Between}
use Rattle.lte_machine.specs.{Opening.Opening, Opening.Outcome, Reply.Reply, PhoneState.Phone, PhoneState.PhoneInput, PhoneRows.Authenticated, PhoneRows.OfAuth, PhoneChoice.phone_row, CoreRows.OfAuth as OfCoreAuth, CoreChoice.core_row, Machines.content_of, Machines.machine_by, Run.stations_of, Run.first_world, Distinct.keys_of, Distinct.Member}
use Rattle.lte_machine.specs.Ladder.{RowOrigin, OfRoot, Of}
use Rattle.lte_machine.specs.PhoneStep.{plain_phone, front_of, phone_root, phone_opens, phone_pdu_in, phone_step}
use Rattle.lte_machine.specs.StationState.{Station, StationInput, StationActs, AirPdu, StationRecord}
use Rattle.lte_machine.specs.StationStep.{key_read, station_key, station_opens, station_pdu_in, station_row_of, station_step}
use Rattle.lte_machine.specs.CoreState.{Core, CoreInput, CoreActs, CoreNasPdu, CoreRecord}
use Rattle.lte_machine.specs.CoreStep.{plain_core, core_front_of, core_root, core_received, core_opens, core_pdu_in, core_step}
use Rattle.lte_machine.specs.World.{Holder, AtPhone, AtCore, AtStation, Machine, World, holds, uses_in, phone_after, core_after, station_after, by_world, phone_turn, core_turn, turn_of, authenticated, known_root, next_root, content_in, happens}
use Rattle.lte_machine.proofs.{Mixed.run, History.Laddered, History.no_history, KnownPhone.PhoneKeeps, KnownPhone.phone_does_keeps, KnownStation.StationKeeps, KnownStation.station_does_keeps, KnownCore.CoreKeeps, KnownCore.core_does_keeps, Worlds.TheWorld}
use Rattle.lte_machine.specs.Known.{PairKnown, StationKnown, SentKnown, IsReported, AllReported}
use Rattle.lte_machine.proofs.KnownLists.{OfSome, all_append, all_one, all_more, all_put, AllOut, phone_more, station_more, core_more, sent_more, uses_in_known}
use Rattle.lte_machine.proofs.KnownLadder.{still_in, new_in, outs_in, laddered_chain, laddered_root}
use Rattle.lte_machine.proofs.Routing.{Turns, no_root, happens_by}

-- a world whose keys were all reported, each derived from keys reported before
pub record Grounds (w : World Term ℕ (Outgoing Term ℕ)) : Type 0 where
  pub ladder : Laddered w.history
  pub keys : AllReported w

-- what a holder has after a step
derived_known : (Q : Term → Type 0) (holder : Holder) (ds : List (Derivation Term)) → AllOut Q ds → AllOf (λ h. Q h.key) (holds holder None ds)
derived_known Q holder [] o = tt
derived_known Q holder (d ∷ ds) o = (o.0, derived_known Q holder ds o.1)

holds_known : (Q : Term → Type 0) (holder : Holder) (o : Option Term) (ds : List (Derivation Term))
    → OfSome Q o
    → AllOut Q ds
    → AllOf (λ h. Q h.key) (holds holder o ds)
holds_known Q holder None ds k o = derived_known Q holder ds o
holds_known Q holder (Some key) ds k o = (k, derived_known Q holder ds o)

-- the key in a record that was sent
content_known : (P : Term → Type 0) (x : Outgoing Term ℕ) → SentKnown P x → PairKnown P (key_read (content_of x))
content_known P (Between to fields key) h = h
content_known P other h = tt

pair_key_known : (P : Term → Type 0) (o : Option (NumberedKey Term ℕ)) → PairKnown P o → OfSome P (option_map (λ x. x.key) o)
pair_key_known P None h = tt
pair_key_known P (Some pair) h = h

core_key_known : (P : Term → Type 0) (x : Outgoing Term ℕ) → SentKnown P x → OfSome P (core_received (CoreRecord (content_of x)))
core_key_known P (Between to fields key) h = pair_key_known P key h
core_key_known P other h = tt

some_more : (P Q : Term → Type 0) → ((t : Term) → P t → Q t) → (o : Option Term) → OfSome P o → OfSome Q o
some_more P Q f None h = tt
some_more P Q f (Some t) h = f t h

-- of any machine over terms whose keys are one where their values are
module _ (root : ℕ → List ℕ → Term) (octets : Outgoing Term ℕ → List ℕ)
    (sender : Option (Outgoing Term ℕ) → Option (KeyUse Term))
    (opener : Opening Term → List ℕ → Option (Outgoing Term ℕ) → Outcome) where
  abbrev m : Machine Term ℕ (Outgoing Term ℕ)
  m = machine_by same_value root octets sender opener

  abbrev r : Reading Term ℕ
  r = term_reading_by same_value

  -- the keys reported after these derivations too
  abbrev After : TheWorld → List (Derivation Term) → Term → Type 0
  After w ds t = Member t (keys_of (w.history ++ map Of ds))

  after_more : (w : TheWorld) (ds : List (Derivation Term)) (t : Term) → IsReported w t → After w ds t
  after_more w ds t h = still_in w.history (map Of ds) t h

  -- what came to an actor was sent
  abbrev CameKnown : TheWorld → Option (Outgoing Term ℕ) → Type 0
  CameKnown w came = OfSome (SentKnown (IsReported w)) came

  -- THE STEP OF ONE ACTOR

  phone_after_grounds : (w : TheWorld) (d : Phone Term ℕ × Reply Term ℕ) →
      PhoneKeeps (IsReported w) (After w d.1.derived) d → OfSome (IsReported w) d.1.received →
      Grounds w → Grounds (phone_after m w d).0
  phone_after_grounds w d k c g =
      let P : Term → Type 0 = IsReported w in
      let Q : Term → Type 0 = After w d.1.derived in
      let outs = outs_in w.history d.1.derived in
      let done = k.1 outs in
      let f = after_more w d.1.derived in
      record {
        ladder = laddered_chain w.history d.1.derived g.ladder k.0;
        keys = record {
          phone = done.0;
          core = core_more P Q f w.core g.keys.core;
          stations = all_more (StationKnown P) (StationKnown Q) (station_more P Q f) w.stations g.keys.stations;
          sent = all_one (SentKnown Q) d.1.sent w.sent (all_more (SentKnown P) (SentKnown Q) (sent_more P Q f) w.sent g.keys.sent) done.1;
          uses =
              all_append (λ u. Q u.key) w.uses (uses_in d.1.sent)
              (all_more (λ u. P u.key) (λ u. Q u.key) (λ u h. f u.key h) w.uses g.keys.uses)
              (uses_in_known Q d.1.sent done.1);
          held =
              all_append (λ h. Q h.key) w.held (holds AtPhone d.1.received d.1.derived)
              (all_more (λ h. P h.key) (λ h. Q h.key) (λ h k. f h.key k) w.held g.keys.held)
              (holds_known Q AtPhone d.1.received d.1.derived (some_more P Q f d.1.received c) outs);
        };
      }

  core_after_grounds : (w : TheWorld) (d : Core Term ℕ × Reply Term ℕ) → CoreKeeps (IsReported w) (After w d.1.derived) d → OfSome (IsReported w) d.1.received →
      Grounds w → Grounds (core_after m w d).0
  core_after_grounds w d k c g =
      let P : Term → Type 0 = IsReported w in
      let Q : Term → Type 0 = After w d.1.derived in
      let outs = outs_in w.history d.1.derived in
      let done = k.1 outs in
      let f = after_more w d.1.derived in
      record {
        ladder = laddered_chain w.history d.1.derived g.ladder k.0;
        keys = record {
          phone = phone_more P Q f w.phone g.keys.phone;
          core = done.0;
          stations = all_more (StationKnown P) (StationKnown Q) (station_more P Q f) w.stations g.keys.stations;
          sent = all_one (SentKnown Q) d.1.sent w.sent (all_more (SentKnown P) (SentKnown Q) (sent_more P Q f) w.sent g.keys.sent) done.1;
          uses =
              all_append (λ u. Q u.key) w.uses (uses_in d.1.sent)
              (all_more (λ u. P u.key) (λ u. Q u.key) (λ u h. f u.key h) w.uses g.keys.uses)
              (uses_in_known Q d.1.sent done.1);
          held =
              all_append (λ h. Q h.key) w.held (holds AtCore d.1.received d.1.derived)
              (all_more (λ h. P h.key) (λ h. Q h.key) (λ h k. f h.key k) w.held g.keys.held)
              (holds_known Q AtCore d.1.received d.1.derived (some_more P Q f d.1.received c) outs);
        };
      }

  station_after_grounds : (w : TheWorld) (id : ℕ) (d : Station Term ℕ × Reply Term ℕ) →
      StationKeeps (IsReported w) (After w d.1.derived) d → OfSome (IsReported w) d.1.received →
      Grounds w → Grounds (station_after m w id d).0
  station_after_grounds w id d k c g =
      let P : Term → Type 0 = IsReported w in
      let Q : Term → Type 0 = After w d.1.derived in
      let outs = outs_in w.history d.1.derived in
      let done = k.1 outs in
      let f = after_more w d.1.derived in
      record {
        ladder = laddered_chain w.history d.1.derived g.ladder k.0;
        keys = record {
          phone = phone_more P Q f w.phone g.keys.phone;
          core = core_more P Q f w.core g.keys.core;
          stations =
              all_put (StationKnown Q) id d.0 done.0 w.stations
              (all_more (StationKnown P) (StationKnown Q) (station_more P Q f) w.stations g.keys.stations);
          sent = all_one (SentKnown Q) d.1.sent w.sent (all_more (SentKnown P) (SentKnown Q) (sent_more P Q f) w.sent g.keys.sent) done.1;
          uses =
              all_append (λ u. Q u.key) w.uses (uses_in d.1.sent)
              (all_more (λ u. P u.key) (λ u. Q u.key) (λ u h. f u.key h) w.uses g.keys.uses)
              (uses_in_known Q d.1.sent done.1);
          held =
              all_append (λ h. Q h.key) w.held (holds (AtStation id) d.1.received d.1.derived)
              (all_more (λ h. P h.key) (λ h. Q h.key) (λ h k. f h.key k) w.held g.keys.held)
              (holds_known Q (AtStation id) d.1.received d.1.derived (some_more P Q f d.1.received c) outs);
        };
      }

  by_world_grounds : (w : TheWorld) (answer : Answer) → Grounds w → Grounds (by_world m w answer).0
  by_world_grounds w answer g = record {
    ladder = g.ladder;
    keys = record {
      phone = g.keys.phone;
      core = g.keys.core;
      stations = g.keys.stations;
      sent = g.keys.sent;
      uses = g.keys.uses;
      held = g.keys.held;
    };
  }

  -- THE TURN OF AN ACTOR

  phone_turn_grounds : (w : TheWorld) (input : PhoneInput Term) (came : Option (Outgoing Term ℕ)) → OfSome (IsReported w) (phone_root input) →
      Grounds w → Grounds (phone_turn m w input came).0
  phone_turn_grounds w input came k g =
      let outcome = opener (phone_opens r w.phone input) (phone_pdu_in input) came in
      let d = phone_step r w.phone input outcome in
      let Q : Term → Type 0 = After w d.1.derived in
      phone_after_grounds w d
      (phone_does_keeps same_value (IsReported w) Q (after_more w d.1.derived)
      (phone_row (plain_phone r w.phone) (front_of r w.phone input) outcome) (phone_root input) w.phone
      (some_more (IsReported w) Q (after_more w d.1.derived) (phone_root input) k) g.keys.phone)
      tt g

  core_turn_grounds : (w : TheWorld) (input : CoreInput Term ℕ) (came : Option (Outgoing Term ℕ)) →
      OfSome (IsReported w) (core_root input) → OfSome (IsReported w) (core_received input) →
      Grounds w → Grounds (core_turn m w input came).0
  core_turn_grounds w input came k c g =
      let outcome = opener (core_opens r w.core input) (core_pdu_in input) came in
      let d = core_step r w.core input outcome in
      let Q : Term → Type 0 = After w d.1.derived in
      core_after_grounds w d
      (core_does_keeps same_value (IsReported w) Q (after_more w d.1.derived)
      (core_row (plain_core r w.core) (core_front_of r w.core input) outcome) (core_root input) w.core
      (some_more (IsReported w) Q (after_more w d.1.derived) (core_root input) k) g.keys.core)
      c g

  station_turn_grounds : (w : TheWorld) (id : ℕ) (input : StationInput Term ℕ) (came : Option (Outgoing Term ℕ))
      (s : Station Term ℕ) → PairKnown (IsReported w) (station_key input) →
      StationKnown (IsReported w) s → Grounds w → Grounds (turn_of m w id input came (Some s)).0
  station_turn_grounds w id input came s k h g =
      let outcome = opener (station_opens r s input) (station_pdu_in input) came in
      let d = station_step r s input outcome in
      station_after_grounds w id d
      (station_does_keeps same_value (IsReported w) (After w d.1.derived) (after_more w d.1.derived)
      (station_row_of r s input outcome) (station_key input) s k h)
      (pair_key_known (IsReported w) (station_key input) k) g

  -- AN EVENT

  authenticated_grounds : (w : TheWorld) (ksi : ℕ) (key : Term) (caps : Caps)
      → known_root m w key ≡ None
      → Grounds w
      → Grounds (authenticated m w ksi key caps).0
  authenticated_grounds w ksi key caps none g =
      let P : Term → Type 0 = IsReported w in
      let new : List (RowOrigin Term) = OfRoot key ∷ [] in
      let Q : Term → Type 0 = λ t. Member t (keys_of (w.history ++ new)) in
      let f : (t : Term) → P t → Q t = still_in w.history new in
      let here : Q key = new_in w.history new key (inl refl) in
      record {
        ladder = laddered_root w.history key g.ladder none;
        keys = record {
          phone = ((phone_does_keeps same_value P Q f (OfAuth (Authenticated ksi)) (Some key) w.phone here g.keys.phone).1 tt).0;
          core = ((core_does_keeps same_value P Q f (OfCoreAuth ksi caps) (Some key) w.core here g.keys.core).1 tt).0;
          stations = all_more (StationKnown P) (StationKnown Q) (station_more P Q f) w.stations g.keys.stations;
          sent = all_more (SentKnown P) (SentKnown Q) (sent_more P Q f) w.sent g.keys.sent;
          uses = all_more (λ u. P u.key) (λ u. Q u.key) (λ u h. f u.key h) w.uses g.keys.uses;
          held = all_append (λ h. Q h.key) w.held _ (all_more (λ h. P h.key) (λ h. Q h.key) (λ h k. f h.key k) w.held g.keys.held) (here, (here, tt));
        };
      }

  read_known : (w : TheWorld) (came : Option (Outgoing Term ℕ)) → CameKnown w came → PairKnown (IsReported w) (key_read (content_in m came))
  read_known w None c = tt
  read_known w (Some x) c = content_known (IsReported w) x c

  core_read_known : (w : TheWorld) (came : Option (Outgoing Term ℕ)) → CameKnown w came → OfSome (IsReported w) (core_received (CoreRecord (content_in m came)))
  core_read_known w None c = tt
  core_read_known w (Some x) c = core_key_known (IsReported w) x c

  turns : (w : TheWorld) → Grounds w → Turns m w (λ e. Unit {0}) (λ to pdu came. CameKnown w came) (StationKnown (IsReported w)) (λ done a. Grounds done.0)
  turns w g = record {
    auth = λ ksi key caps is new. authenticated_grounds w ksi (root (next_root w) key) caps new g;
    phone = λ input came turn is. phone_turn_grounds w input came (no_root (IsReported w) input turn) g;
    core_acts = λ act is. core_turn_grounds w (CoreActs act) None tt tt g;
    core_nas = λ pdu came is. core_turn_grounds w (CoreNasPdu pdu) came tt tt g;
    core_record = λ pdu came is. core_turn_grounds w (CoreRecord (content_in m came)) came tt (core_read_known w came is) g;
    station_acts = λ id act is s f. station_turn_grounds w id (StationActs act) None s tt f.holds g;
    station_air = λ id air bearer pdu came is s f. station_turn_grounds w id (AirPdu air bearer pdu) came s tt f.holds g;
    station_record = λ on id pdu came is s f. station_turn_grounds w id (StationRecord on (content_in m came)) came s (read_known w came is) f.holds g;
    none = λ answer. by_world_grounds w answer g;
  }

  -- every event keeps it
  pub happens_grounds : (w : TheWorld) (e : Event) → Grounds w → Grounds (happens m w e).0
  happens_grounds w e g = happens_by (turns w g) (λ to pdu. tt) g.keys.sent g.keys.stations e tt

  -- every run keeps it
  pub run_grounds : (w : TheWorld) (es : List Event) → Grounds w → Grounds (run m w es)
  run_grounds w [] g = g
  run_grounds w (e ∷ es) g = run_grounds (happens m w e).0 es (happens_grounds w e g)

stations_known : (P : Term → Type 0) (sites : List Site) (ss : List StationSetup) → AllOf (StationKnown P) (stations_of sites ss)
stations_known P sites [] = tt
stations_known P sites (s ∷ ss) = ((tt, tt), stations_known P sites ss)

-- before the first event there is no key
pub first_grounds : (setup : Setup) → Grounds (first_world setup)
first_grounds setup = record {
  ladder = no_history;
  keys = record {
    phone = (tt, tt, tt);
    core = (tt, tt, tt, tt);
    stations = stations_known (λ t. Member t []) setup.cells setup.stations;
    sent = tt;
    uses = tt;
    held = tt;
  };
}
