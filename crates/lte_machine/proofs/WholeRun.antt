-- The run in octets is the value of the run of the written machine, for every setup and every list of events.
use Rattle.std.proofs.Common.{◌≡◌, refl, ap, sym, ◌∙◌, ℕ, List, [], ◌∷◌, map, Option, Some, None}
use Rattle.std.specs.List.{AllByRecursion as AllOf}
use Rattle.rec_base.specs.declared.uses.Dir.TheVariants.{Up}
use Rattle.lte_events.specs.{declared.addresses.Address.Address, declared.events.Event.Event, declared.setups.Setup.Setup, declared.setups.StationSetup.StationSetup, Site.Site, Ranges.IsEvent, Ranges.IsSetup}
use Rattle.key_model.specs.{Chain.ncc_of, Term.Term, Term.Root, Value.value_of, Value.same_value}
use Rattle.lte_machine.specs.Wire.{Outgoing, SealedNas, SealedRrc, UserPacket, Between, address_of}
use Rattle.lte_machine.specs.Ciphers.{Ciphers, under_keys, octets_of}
use Rattle.lte_machine.specs.{Opening.open_octets, StationState.first_station}
use Rattle.lte_machine.specs.Carried.{map_stations, run_value, report_value}
use Rattle.lte_machine.specs.Machines.{Kept, machine_in_octets, sender_of, opening_by_octets, written_machine, written_in_values, kept_in_values}
use Rattle.lte_machine.specs.Run.{Running, replay, report, stations_of, first_world}
use Rattle.lte_machine.specs.World.{Machine, World, record_at}
use Rattle.lte_machine.proofs.InOctets.{agree, KeepsBack, run_in_octets, tale_in_octets}
use Rattle.lte_machine.proofs.RangeHolds.{RecordRanged, SentRanged, Ranged}
use Rattle.lte_machine.proofs.{KnownLists.all_chosen, CipherLaws.AreCiphers}
use Rattle.lte_machine.proofs.RangeWorld.{ranged_keeps, first_ranged, reads_back}
use Rattle.lte_machine.proofs.WorldMap.{BackAt, BackIf, BackOf}

-- THE FIRST WORLD

stations-value : (sites : List Site) (ss : List StationSetup) → map_stations value_of ncc_of (stations_of {K = Term} {C = ℕ} sites ss) ≡ stations_of sites ss
stations-value sites [] = refl
stations-value sites (s ∷ ss) = ap (λ xs. first_station s.id sites s.priority s.first ∷ xs) (stations-value sites ss)

module _ (c : Ciphers (List ℕ)) where
  -- the first world holds no key
  pub first_value : (setup : Setup) → run_value c (Running (first_world setup)) ≡ Running (first_world setup)
  first_value setup = λ j. Running (record (first_world setup) { stations = stations-value setup.cells setup.stations j })

  -- WHAT WAS SENT READS BACK

  abbrev m : Machine Term ℕ (Outgoing Term ℕ)
  m = opening_by_octets same_value (under_keys value_of c) written_in_values

  abbrev q : Machine (List ℕ) ℕ Kept
  q = machine_in_octets c

  -- a record that comes to its address
  record_back : (x : Outgoing Term ℕ) → RecordRanged x → BackAt m q value_of ncc_of (kept_in_values c) (agree c) (address_of x) (Some x)
  record_back (SealedNas Up header u e text) h = tt
  record_back (SealedRrc Up station air srb u e text) h = tt
  record_back (UserPacket Up station air drb e text) h = tt
  record_back (Between Address.CoreS1 fields key) h = reads_back fields key h.0 h.1
  record_back (Between (Address.StationS1 station) fields key) h = reads_back fields key h.0 h.1
  record_back (Between (Address.StationX2 station) fields key) h = reads_back fields key h.0 h.1
  record_back other h = tt

  sent_back : (o : Option (Outgoing Term ℕ)) → SentRanged o → BackIf m q value_of ncc_of (kept_in_values c) (agree c) o
  sent_back None h = tt
  sent_back (Some x) h = record_back x h

  pub ranged_back : (w : World Term ℕ (Outgoing Term ℕ)) (e : Event) → Ranged w → BackOf m q value_of ncc_of (kept_in_values c) (agree c) w e
  ranged_back w (Event.Deliver i) h = sent_back (record_at i w.sent) (all_chosen RecordRanged i w.sent h.2)
  ranged_back w other h = tt

  -- so ranges are a property of worlds by which what was sent reads back
  pub ranged_keeps_back : KeepsBack c Ranged
  ranged_keeps_back = record {
    keeps =
        ranged_keeps same_value Root (octets_of (under_keys value_of c) written_in_values) sender_of
        (λ opening pdu came. open_octets (under_keys value_of c) opening pdu);
    back = λ w e is h. ranged_back w e h;
  }

  -- THE WHOLE RUN

  module _ (good : AreCiphers c) (setup : Setup) (is : IsSetup setup) (events : List Event) (are : AllOf IsEvent events) where
    -- the run in octets is the value of the run in terms
    pub run_is_value : replay (open_octets c) (machine_in_octets c) (Running (first_world setup)) events
        ≡ run_value c (replay (open_octets (under_keys value_of c)) (written_machine c) (Running (first_world setup)) events)
    run_is_value =
        ap (λ r. replay (open_octets c) (machine_in_octets c) r events) (sym (first_value setup))
        ∙ run_in_octets c good Ranged ranged_keeps_back (Running (first_world setup)) events are (first_ranged setup is)

    -- and what is told of its events is the value of what is told of that run's
    pub tale_is_value : report (open_octets c) (machine_in_octets c) (Running (first_world setup)) events
        ≡ map report_value (report (open_octets (under_keys value_of c)) (written_machine c) (Running (first_world setup)) events)
    tale_is_value =
        ap (λ r. report (open_octets c) (machine_in_octets c) r events) (sym (first_value setup))
        ∙ tale_in_octets c good Ranged ranged_keeps_back (Running (first_world setup)) events are (first_ranged setup is)
