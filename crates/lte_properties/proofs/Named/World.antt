-- In every world of a run each record that was sent goes to the phone, to the core, or to a station of the setup.
use Rattle.std.proofs.Common.{◌≡◌, subst, ℕ, Bool, List, [], ◌∷◌, Option, Some, None}
use Rattle.annex_a_keys.specs.Cell.{Place}
use Rattle.rec_base.specs.declared.uses.Dir.TheVariants.{Up}
use Rattle.lte_events.specs.{declared.events.Event.Event, Site.Site, Site.station_of}
use Rattle.key_model.specs.Term.{Term}
use Rattle.lte_machine.specs.CoreState.{CoreInput, CoreAuth, CoreActs, CoreNasPdu, CoreRecord}
use Rattle.lte_machine.specs.CoreStep.{core_opens, core_pdu_in, core_step}
use Rattle.lte_machine.specs.{Machines.content_of, PhoneChoice.phone_row, PhoneState.PhoneInput, Reply.Made, Run.run}
use Rattle.lte_machine.specs.Opening.{Opening, Outcome, Opened}
use Rattle.lte_machine.specs.PhoneStep.{plain_phone, front_of, phone_root, phone_opens, phone_pdu_in, phone_step}
use Rattle.lte_machine.specs.StationState.{Station, StationInput, StationActs, AirPdu, StationRecord}
use Rattle.lte_machine.specs.StationStep.{station_opens, station_pdu_in, station_step}
use Rattle.lte_machine.specs.Wire.{KeyUse, Outgoing, SealedNas, SealedRrc, UserPacket, Between, address_of}
use Rattle.lte_machine.specs.World.{Machine, World, phone_turn, core_turn, turn_of, next_root, content_in, happens}
use Rattle.lte_machine.proofs.{Routing.Turns, Routing.happens_by, PhoneGives.NotBetween, PhoneGives.phone_gives}
use Rattle.lte_properties.specs.{Agreement.is_made_at, Agreement.made_at, ChainBelow.AllOf, Reach.IsAmong, ChainHolds.machine_by}
use Rattle.lte_properties.proofs.ChainNumbers.Lists.{OfSome, all_one, all_put}
use Rattle.lte_properties.proofs.{Agreement.Ghost.SentOk, Agreement.ToldIsFound.all_found, Agreement.ToldIsFound.made_there, Agreement.World.Conns, Agreement.World.ghost, Opening.Air.AirOk, Named.Station.MadeNamed, Named.Station.station_step_named, Named.Core.core_step_named}
use Rattle.lte_properties.proofs.Named.Facts.{StationNamed, CoreNamed, RecordNamed, SentNamed, ReadNamed, InputNamed, CoreInputNamed}

module _ (P : ℕ → Type 0) (cells : List Site) (sites : (cell : Place) (id : ℕ) → station_of cell cells ≡ Some id → P id) where
  pub record AllNamed (w : World Term ℕ (Outgoing Term ℕ)) : Type 0 where
    pub core : CoreNamed P cells w.core
    pub stations : AllOf (λ s. StationNamed P cells s) w.stations
    pub sent : AllOf (λ x. RecordNamed P x) w.sent
    pub made : AllOf (λ m. P m.station) w.made

  some_sent : (o : Option (Outgoing Term ℕ)) → SentNamed P o → OfSome (λ x. RecordNamed P x) o
  some_sent None h = tt
  some_sent (Some x) h = h

  some_made : (o : Option (Made Term ℕ)) → MadeNamed P cells sites o → OfSome (λ m. P m.station) o
  some_made None h = tt
  some_made (Some m) h = h

  -- the phone sends nothing on S1 and X2
  phone_sends : (o : Option (Outgoing Term ℕ)) → NotBetween o → OfSome (λ x. RecordNamed P x) o
  phone_sends (Some (Between to fields key)) h = absurd h
  phone_sends other h = tt

  read_named : (x : Outgoing Term ℕ) → RecordNamed P x → ReadNamed P (content_of x)
  read_named (Between to fields key) h = h.1
  read_named other h = tt

  -- EVERY EVENT

  module _ (same : Term → Term → Bool) (root : ℕ → List ℕ → Term) (octets : Outgoing Term ℕ → List ℕ)
      (sender : Option (Outgoing Term ℕ) → Option (KeyUse Term))
      (opener : Opening Term → List ℕ → Option (Outgoing Term ℕ) → Outcome) where
    abbrev m : Machine Term ℕ (Outgoing Term ℕ)
    m = machine_by same root octets sender opener

    came_named : (came : Option (Outgoing Term ℕ)) → OfSome (λ x. RecordNamed P x) came → ReadNamed P (content_in m came)
    came_named None h = tt
    came_named (Some x) h = read_named x h

    module _ (w : World Term ℕ (Outgoing Term ℕ)) (h : AllNamed w) where
      phone_turn_named : (i : PhoneInput Term) (came : Option (Outgoing Term ℕ)) → AllNamed (phone_turn m w i came).0
      phone_turn_named i came =
          let outcome = m.opener (phone_opens m.reading w.phone i) (phone_pdu_in i) came in
          let row = phone_row (plain_phone m.reading w.phone) (front_of m.reading w.phone i) outcome in
          let d = phone_step m.reading w.phone i outcome in
          record {
            core = h.core;
            stations = h.stations;
            sent =
                all_one (λ x. RecordNamed P x) d.1.sent w.sent h.sent
                (phone_sends d.1.sent (phone_gives same row (phone_root i) w.phone).0);
            made = h.made;
          }

      core_turn_named : (i : CoreInput Term ℕ) (came : Option (Outgoing Term ℕ)) → CoreInputNamed P i → AllNamed (core_turn m w i came).0
      core_turn_named i came f =
          let outcome = m.opener (core_opens m.reading w.core i) (core_pdu_in i) came in
          let d = core_step m.reading w.core i outcome in
          let k = core_step_named P cells sites same w.core h.core i outcome f in
          record { core = k.0; stations = h.stations; sent = all_one (λ x. RecordNamed P x) d.1.sent w.sent h.sent (some_sent d.1.sent k.1); made = h.made }

      station_turn_named : (id : ℕ) (i : StationInput Term ℕ) (came : Option (Outgoing Term ℕ)) (s : Station Term ℕ)
          → InputNamed P i
          → StationNamed P cells s
          → AllNamed (turn_of m w id i came (Some s)).0
      station_turn_named id i came s f k =
          let outcome = m.opener (station_opens m.reading s i) (station_pdu_in i) came in
          let d = station_step m.reading s i outcome in
          let done = station_step_named P cells sites same s i outcome k f in record {
            core = h.core;
            stations = all_put (λ s. StationNamed P cells s) (λ s. StationNamed P cells s) id d.0 w.stations done.0 (λ t e old. old) h.stations;
            sent = all_one (λ x. RecordNamed P x) d.1.sent w.sent h.sent (some_sent d.1.sent done.1);
            made = all_one (λ x. P x.station) d.1.made w.made h.made (some_made d.1.made done.2);
          }

      turns : Turns m w (λ e. Unit {0}) (λ to pdu came. OfSome (λ x. RecordNamed P x) came) (λ s. StationNamed P cells s) (λ done a. AllNamed done.0)
      turns = record {
        auth = λ ksi key caps is new.
            record {
              core =
                  (core_step_named P cells sites same w.core h.core (CoreAuth ksi (m.root (next_root w) key) caps)
                  (Opened []) tt).0;
              stations = h.stations;
              sent = h.sent;
              made = h.made;
            };
        phone = λ i came turn is. phone_turn_named i came;
        core_acts = λ act is. core_turn_named (CoreActs act) None tt;
        core_nas = λ pdu came is. core_turn_named (CoreNasPdu pdu) came tt;
        core_record = λ pdu came is. core_turn_named (CoreRecord (content_in m came)) came (came_named came is);
        station_acts = λ id act is s f. station_turn_named id (StationActs act) None s tt f.holds;
        station_air = λ id air bearer pdu came is s f. station_turn_named id (AirPdu air bearer pdu) came s tt f.holds;
        station_record = λ on id pdu came is s f. station_turn_named id (StationRecord on (content_in m came)) came s (came_named came is) f.holds;
        none = λ answer. record { core = h.core; stations = h.stations; sent = h.sent; made = h.made };
      }

      happens_named : (e : Event) → AllNamed (happens m w e).0
      happens_named e = happens_by turns (λ to pdu. tt) h.sent h.stations e tt

    pub run_named : (w : World Term ℕ (Outgoing Term ℕ)) (es : List Event) → AllNamed w → AllNamed (run m w es)
    run_named w [] h = h
    run_named w (e ∷ es) h = run_named (happens m w e).0 es (happens_named w h e)

  -- THE ADDRESS OF EACH RECORD

  module _ (k : Conns) (w : World Term ℕ (Outgoing Term ℕ)) (h : AllNamed w) where
    made_named : (id air : ℕ) (m : Made Term ℕ) → made_at w.made id air ≡ Some m → P id
    made_named id air m there = subst P (made_there w.made id air m there).0 (all_found (λ x. P x.station) (is_made_at id air) w.made m h.made there)

    address_named : (x : Outgoing Term ℕ) → RecordNamed P x → SentOk (ghost k w) x → AirOk (ghost k w) x → IsAmong P (address_of x)
    address_named (SealedNas Up header u e text) r a b = tt
    address_named (SealedRrc Up station air srb u e text) r a b = made_named station air a.sealed.made a.sealed.found
    address_named (UserPacket Up station air drb e text) r a b = made_named station air b.are.made b.are.found
    address_named (Between to fields key) r a b = r.0
    address_named other r a b = tt

    pub addresses_named : (xs : List (Outgoing Term ℕ))
        → AllOf (λ x. RecordNamed P x) xs
        → AllOf (SentOk (ghost k w)) xs
        → AllOf (AirOk (ghost k w)) xs
        → AllOf (λ x. IsAmong P (address_of x)) xs
    addresses_named [] r a b = tt
    addresses_named (x ∷ xs) r a b = (address_named x r.0 a.0 b.0, addresses_named xs r.1 a.1 b.1)
