-- Every event keeps the world in range; so what was sent on S1 and X2 reads back.
use Rattle.std.proofs.Common.{◌≡◌, ℕ, Bool, List, [], ◌∷◌, Option, Some, None, option_map, Ok}
use Rattle.std.proofs.lemmas.List.Elements.{recursion_from_All}
use Rattle.std.specs.List.{AllByRecursion as AllOf}
use Rattle.lte_events.specs.{declared.events.Event.Event, declared.setups.Setup.Setup, declared.setups.StationSetup.StationSetup, Site.Site}
use Rattle.lte_events.specs.Ranges.{IsEvent, IsStation, IsSetup}
use Rattle.key_model.specs.{Chain.ncc_of, HandoverLines.map_numbered, HandoverTable.NumberedKey, Term.Term, Value.value_of}
use Rattle.s1x2_rec.specs.Fields.{Fields, InitialContext, PathSwitchAnswer, HandoverRequest, X2Request, ContextModification}
use Rattle.s1x2_rec.specs.Reading.{read_core}
use Rattle.s1x2_rec.specs.Spelling.{FieldsInRange, IsKey, IsNoKey, KeyInRange}
use Rattle.s1x2_rec.proofs.Contents.{content_again}
use Rattle.lte_machine.specs.Wire.{KeyUse, Outgoing, Between}
use Rattle.lte_machine.specs.{Ciphers.written, PhoneState.PhoneInput, PhoneChoice.phone_row, Machines.machine_by, Machines.content_of, Run.stations_of, Run.first_world}
use Rattle.lte_machine.specs.Opening.{Opening, Outcome, Opened}
use Rattle.lte_machine.specs.PhoneStep.{plain_phone, front_of, phone_root, phone_opens, phone_pdu_in, phone_step}
use Rattle.lte_machine.specs.StationState.{Station, StationInput, StationActs, AirPdu, StationRecord}
use Rattle.lte_machine.specs.StationStep.{station_opens, station_pdu_in, station_step}
use Rattle.lte_machine.specs.CoreState.{CoreInput, CoreAuth, CoreActs, CoreNasPdu, CoreRecord}
use Rattle.lte_machine.specs.CoreStep.{core_opens, core_pdu_in, core_step}
use Rattle.lte_machine.specs.World.{Machine, phone_turn, core_turn, turn_of, next_root, content_in, happens}
use Rattle.lte_machine.proofs.{RangeKeys.octets_value, RangeKeys.length_value, RangeStation.station_step_ranged, RangeCore.core_step_ranged, RangePhone.phone_does_sends, Routing.Turns, Routing.happens_by, Worlds.TheWorld}
use Rattle.lte_machine.proofs.RangeHolds.{HasKey, HasNoKey, KeyRanged, RecordRanged, StationRanged, ReadRanged, StationInputRanged, CoreInputRanged, Ranged}
use Rattle.lte_machine.proofs.KnownLists.{OfSome, all_one, all_put}

-- what was sent, as it is read
read_ranged : (x : Outgoing Term ℕ) → RecordRanged x → ReadRanged (content_of x)
read_ranged (Between to fields key) h = h.0
read_ranged other h = tt

-- ONE EVENT, of any machine over terms that keeps records as they are sent

module _ (same : Term → Term → Bool) (root : ℕ → List ℕ → Term) (octets : Outgoing Term ℕ → List ℕ)
    (sender : Option (Outgoing Term ℕ) → Option (KeyUse Term)) (opener : Opening Term → List ℕ → Option (Outgoing Term ℕ) → Outcome) where
  abbrev m : Machine Term ℕ (Outgoing Term ℕ)
  m = machine_by same root octets sender opener

  came_ranged : (came : Option (Outgoing Term ℕ)) → OfSome RecordRanged came → ReadRanged (content_in m came)
  came_ranged None h = tt
  came_ranged (Some x) h = read_ranged x h

  module _ (w : TheWorld) (h : Ranged w) where
    phone_turn_ranged : (i : PhoneInput Term) (came : Option (Outgoing Term ℕ)) → Ranged (phone_turn m w i came).0
    phone_turn_ranged i came =
        let outcome = m.opener (phone_opens m.reading w.phone i) (phone_pdu_in i) came in
        let row = phone_row (plain_phone m.reading w.phone) (front_of m.reading w.phone i) outcome in
        (h.0, h.1, all_one RecordRanged (phone_step m.reading w.phone i outcome).1.sent w.sent h.2 (phone_does_sends same row (phone_root i) w.phone))

    core_turn_ranged : (i : CoreInput Term ℕ) (came : Option (Outgoing Term ℕ)) → CoreInputRanged i → Ranged (core_turn m w i came).0
    core_turn_ranged i came f =
        let outcome = m.opener (core_opens m.reading w.core i) (core_pdu_in i) came in
        let k = core_step_ranged same w.core h.0 i outcome f in
        (k.0, h.1, all_one RecordRanged (core_step m.reading w.core i outcome).1.sent w.sent h.2 k.1)

    station_turn_ranged : (id : ℕ) (i : StationInput Term ℕ) (came : Option (Outgoing Term ℕ)) (s : Station Term ℕ)
        → StationInputRanged i
        → StationRanged s
        → Ranged (turn_of m w id i came (Some s)).0
    station_turn_ranged id i came s f is =
        let outcome = m.opener (station_opens m.reading s i) (station_pdu_in i) came in
        let d = station_step m.reading s i outcome in
        let k = station_step_ranged same s i outcome is f in
        (h.0, all_put StationRanged id d.0 k.0 w.stations h.1, all_one RecordRanged d.1.sent w.sent h.2 k.1)

    turns : Turns m w IsEvent (λ to pdu came. OfSome RecordRanged came) StationRanged (λ done a. Ranged done.0)
    turns = record {
      auth = λ ksi key caps is new. ((core_step_ranged same w.core h.0 (CoreAuth ksi (m.root (next_root w) key) caps) (Opened []) is.2).0, h.1, h.2);
      phone = λ i came turn is. phone_turn_ranged i came;
      core_acts = λ act is. core_turn_ranged (CoreActs act) None is;
      core_nas = λ pdu came is. core_turn_ranged (CoreNasPdu pdu) came tt;
      core_record = λ pdu came is. core_turn_ranged (CoreRecord (content_in m came)) came (came_ranged came is);
      station_acts = λ id act is s f. station_turn_ranged id (StationActs act) None s is f.holds;
      station_air = λ id air bearer pdu came is s f. station_turn_ranged id (AirPdu air bearer pdu) came s tt f.holds;
      station_record = λ on id pdu came is s f. station_turn_ranged id (StationRecord on (content_in m came)) came s (came_ranged came is) f.holds;
      none = λ answer. h;
    }

  -- every event keeps the world in range
  pub ranged_keeps : (w : TheWorld) (e : Event) → IsEvent e → Ranged w → Ranged (happens m w e).0
  ranged_keeps w e is h = happens_by (turns w h) (λ to pdu. tt) h.2 h.1 e is

-- THE FIRST WORLD

first_stations : (sites : List Site) (ss : List StationSetup) → AllOf IsStation ss → AllOf StationRanged (stations_of {K = Term} {C = ℕ} sites ss)
first_stations sites [] h = tt
first_stations sites (s ∷ ss) h = ((h.0.0, h.0.1.0, tt, tt), first_stations sites ss h.1)

pub first_ranged : (setup : Setup) → IsSetup setup → Ranged (first_world setup)
first_ranged setup is = ((is.core_first.0, tt, tt, tt), first_stations setup.cells setup.stations (recursion_from_All IsStation setup.stations is.stations), tt)

-- WHAT WAS SENT READS BACK

key_back : (greatest : ℕ) (key : Option (NumberedKey Term ℕ)) → HasKey greatest key → IsKey greatest (option_map (map_numbered value_of ncc_of) key)
key_back greatest None h = absurd h
key_back greatest (Some k) h = (length_value k.key h.0, octets_value k.key h.0, h.1)

no_key_back : (key : Option (NumberedKey Term ℕ)) → HasNoKey key → IsNoKey (option_map (map_numbered value_of ncc_of) key)
no_key_back None h = tt
no_key_back (Some k) h = absurd h

key_in_range : (fields : Fields) (key : Option (NumberedKey Term ℕ)) → KeyRanged fields key → KeyInRange fields (option_map (map_numbered value_of ncc_of) key)
key_in_range (InitialContext conn cell caps) key h = key_back 0 key h
key_in_range (PathSwitchAnswer conn number) key h = key_back 7 key h
key_in_range (HandoverRequest conn source attempt cell caps) key h = key_back 7 key h
key_in_range (X2Request conn source attempt cell caps) key h = key_back 7 key h
key_in_range (ContextModification conn next) key h = key_back 0 key h
key_in_range other key h = no_key_back key h

-- the octets of a record in range are read as the record
pub reads_back : (fields : Fields) (key : Option (NumberedKey Term ℕ)) → FieldsInRange fields → KeyRanged fields key →
    read_core (written fields (option_map (map_numbered value_of ncc_of) key))
    ≡ Ok (record { fields = fields; key = option_map (map_numbered value_of ncc_of) key })
reads_back fields key f k =
    content_again (record { fields = fields; key = option_map (map_numbered value_of ncc_of) key })
    (record { fields = f; key = key_in_range fields key k })
