-- A station whose context is active took the first record of the phone there, so that its next COUNT on SRB1 is not 0.
use Rattle.std.proofs.Common.{subst, ◌≡◌, ℕ, ◌+◌, ◌≤◌, false, List, [], ◌∷◌, Option, Some, None, option_map, arith}
use Rattle.std.specs.Prelude.{⊤}
use Rattle.lte_events.specs.{declared.events.Event.Event, declared.setups.Setup.Setup, declared.setups.StationSetup.StationSetup, Site.Site}
use Rattle.key_model.specs.{HandoverTable.NumberedKey, Reading.Reading, Term.Term}
use Rattle.lte_machine.proofs.{StationCases.station_case, Routing.found_in, Routing.happens_each}
use Rattle.lte_machine.specs.{Bearers.Signalling1, Wire.Outgoing, StationRows.StationRow, StationRecords.with_pair, StationRecords.with_answer}
use Rattle.lte_machine.specs.StationState.{Station, Context, StationInput}
use Rattle.lte_machine.specs.StationKeys.{with_security, with_rrc_taken, with_packet_taken, given_up, with_skipped, station_does}
use Rattle.lte_machine.specs.StationStep.{station_row_of, station_key, station_opens, station_pdu_in}
use Rattle.lte_machine.specs.World.{Machine, World, turn_of, happens}
use Rattle.lte_machine.specs.Run.{stations_of, first_world, run}
use Rattle.lte_properties.specs.ChainBelow.{AllOf}
use Rattle.lte_properties.proofs.ChainNumbers.Lists.{all_put}
use Rattle.lte_properties.proofs.Agreement.Phone.{heard_taken, heard_packet, heard_sent, heard_packet_sent, heard_left}

abbrev pub Heard : Option (Context Term ℕ) → Type 0
Heard None = ⊤
Heard (Some c) = c.starting ≡ false → 1 ≤ c.bearers.srb1.receive

-- a context that changes
heard_with : (f : Context Term ℕ → Context Term ℕ)
    → ((c : Context Term ℕ) → Heard (Some c) → Heard (Some (f c)))
    → (o : Option (Context Term ℕ))
    → Heard o
    → Heard (option_map f o)
heard_with f k None h = tt
heard_with f k (Some c) h = k c h

above : (count : ℕ) → 1 ≤ count + 1
above count = omega arith

-- A STATION'S ROWS

station_heard : (r : Reading Term ℕ) (row : StationRow) (key : Option (NumberedKey Term ℕ)) (s : Station Term ℕ)
    → Heard s.context
    → Heard (station_does r row key s).0.context
station_heard r row key s h =
    station_case r s (λ d. Heard d.0.context)
    (record {
      nothing = λ answer. h;
      given = λ conn cell caps algs air kenb k. λ x. absurd cc;
      released = λ key k. tt;
      taken = λ conn origin pair k. heard_with (with_pair pair) (λ c k. k) s.context h;
      by_s1 = λ w pair k. h;
      by_x2 = λ w star k. h;
      answered = λ order key k. heard_with (with_answer order) (λ c k. k) s.context h;
      cancelled = λ from key k. h;
      left = λ key k. tt;
      renewed = λ conn number air count c e kenb k. λ x. heard_sent Signalling1 c.bearers (subst Heard e h x);
    })
    (record {
      nothing = λ answer. h;
      secured = λ count k. heard_with (with_security count) (λ c k x. above count) s.context h;
      opened = λ srb count text k. heard_with (with_rrc_taken srb count) (λ c k x. heard_taken srb count c.bearers (k x)) s.context h;
      packet = λ drb count text k. heard_with (with_packet_taken drb count) (λ c k x. heard_packet drb count c.bearers (k x)) s.context h;
      by_s1 = λ at count k p e. λ x. above count;
      within = λ at count origin k p e. λ x. above count;
      by_x2 = λ at count number k p e. λ x. above count;
    })
    (record {
      nothing = λ answer. h;
      by_x2 = λ number target cell k c e. subst Heard e h;
      by_s1 = λ number target cell k c e. subst Heard e h;
      within = λ number air cell k c e. subst Heard e h;
      commanded = λ via order count k c e. λ x. heard_sent Signalling1 c.bearers (subst Heard e h x);
      cancelled_x2 = λ conn number target k. heard_with given_up (λ c k. k) s.context h;
      cancelled_s1 = λ conn number cell k. heard_with given_up (λ c k. k) s.context h;
      cancelled_within = λ number k. heard_with given_up (λ c k. k) s.context h;
      asked = λ number k c e. subst Heard e h;
      packet = λ drb count text k c e. λ x. heard_packet_sent drb c.bearers (subst Heard e h x);
      text = λ srb count text k c e. λ x. heard_sent srb c.bearers (subst Heard e h x);
      skipped = λ on n k. heard_with (with_skipped on n) (λ c k x. heard_left on n c.bearers (k x)) s.context h;
    }) row key

-- EVERY EVENT OF ANY MACHINE

abbrev StationHeard : Station Term ℕ → Type 0
StationHeard s = Heard s.context

abbrev pub AllHeard : World Term ℕ (Outgoing Term ℕ) → Type 0
AllHeard w = AllOf StationHeard w.stations

module _ (m : Machine Term ℕ (Outgoing Term ℕ)) where
  module _ (w : World Term ℕ (Outgoing Term ℕ)) (h : AllHeard w) where
    station_turn_heard : (id : ℕ) (input : StationInput Term ℕ) (came : Option (Outgoing Term ℕ)) (s : Station Term ℕ)
        → Heard s.context
        → AllHeard (turn_of m w id input came (Some s)).0
    station_turn_heard id input came s k =
        let outcome = m.opener (station_opens m.reading s input) (station_pdu_in input) came in
        let row = station_row_of m.reading s input outcome in
        all_put StationHeard StationHeard id (station_does m.reading row (station_key input) s).0 w.stations
        (station_heard m.reading row (station_key input) s k) (λ t e old. old) h

    happens_heard : (e : Event) → AllHeard (happens m w e).0
    happens_heard =
        happens_each m w (λ done a. AllHeard done.0) (λ ksi key caps. h) (λ input came turn. h) (λ input came. h)
        (λ id input came s there own. station_turn_heard id input came s (found_in StationHeard id w.stations s h there)) (λ answer. h)

  run_heard : (w : World Term ℕ (Outgoing Term ℕ)) (es : List Event) → AllHeard w → AllHeard (run m w es)
  run_heard w [] h = h
  run_heard w (e ∷ es) h = run_heard (happens m w e).0 es (happens_heard w h e)

  no_context : (sites : List Site) (ss : List StationSetup) → AllOf StationHeard (stations_of {K = Term} {C = ℕ} sites ss)
  no_context sites [] = tt
  no_context sites (s ∷ ss) = (tt, no_context sites ss)

  -- in every run
  pub always_heard : (setup : Setup) (es : List Event) → AllHeard (run m (first_world setup) es)
  always_heard setup es = run_heard (first_world setup) es (no_context setup.cells setup.stations)
