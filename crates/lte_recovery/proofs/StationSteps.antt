-- The two steps of the station: it makes a context, and takes the phone's answer.
use Rattle.std.proofs.Common.{◌≡◌, ℕ, ◌+◌, ◌<◌, ◌≤◌, Bool, true, false, if◌then◌else◌, List, [], Option, Some, None, option_map, Ok, refl, ap, ◌∙◌, arith}
use Rattle.std.specs.Prelude.{◌==◌, nat_le}
use Rattle.std.proofs.lemmas.Bool.Decides.{nat_tests}
use Rattle.alg_choice.specs.{Choice.choice_of, declared.algs.Algs.Algs, declared.caps.Caps.Caps}
use Rattle.annex_a_keys.specs.Cell.{Place}
use Rattle.rec_base.specs.{declared.bearers.Bearer.TheVariants.Srb1, declared.uses.Dir.TheVariants.Up}
use Rattle.lte_events.specs.Site.{station_of}
use Rattle.lte_events.specs.declared.answers.Answer.TheVariants.{NumberSpent, OldConnection, UnknownCell}
use Rattle.key_model.specs.{Term.Term, Reading.Reading, Reading.term_reading_by}
use Rattle.pdcp_guard.specs.{AsKeys.as_keys_of, Srb.srb_count}
use Rattle.rrc_rec.specs.{declared.records.RrcRecord.TheVariants.SecurityModeComplete, Reading.read_rrc}
use Rattle.s1x2_rec.specs.Fields.{InitialContext}
use Rattle.ho_prep.specs.Prep.{at_air}
use Rattle.lte_machine.specs.{Bearers.Signalling1, Bearers.which, Wire.srb_use, Wire.Outgoing, Reply.unseen, StationRecords.initial_context, StationRecords.security_command, StationKeys.with_security}
use Rattle.lte_machine.specs.Opening.{OpensSrb, Outcome, Opened}
use Rattle.lte_machine.specs.StationState as state
use Rattle.lte_machine.specs.StationState.{Station, Context, StationRecord, AirPdu, OnS1}
use Rattle.lte_machine.specs.StationRows.{RecordRefused, ContextGiven, SecurityStarted}
use Rattle.lte_machine.specs.StationChoice as at_station
use Rattle.lte_machine.specs.StationRecords as by_record
use Rattle.lte_machine.specs.StationKeys as by_station
use Rattle.lte_machine.specs.StationStep.{plain_station, station_step, station_opens}
use Rattle.lte_properties.proofs.Opening.Steps.{Opener}
use Rattle.lte_recovery.proofs.PhoneSteps.{Goes}

module _ (same : Term → Term → Bool) where
  abbrev r : Reading Term ℕ
  r = term_reading_by same

  -- a station with a context for a connection
  abbrev pub given_of : Station Term ℕ → ℕ → Place → Caps → Algs → Term → Station Term ℕ
  given_of s conn cell caps algs kenb =
      record s { next = s.next + 1; last = conn; context = Some (initial_context r conn cell caps algs s.next kenb); preps = [] }

  is_its_own : (a b : ℕ) → a ≡ b → (a == b) ≡ true
  is_its_own a b f = grind (arith, nat_tests)

  -- IT MAKES A CONTEXT
  pub station_gives : (s : Station Term ℕ) (conn : ℕ) (cell : Place) (caps : Caps) (algs : Algs) (kenb : Term) (number : ℕ) (outcome : Outcome)
      → s.last < conn
      → station_of cell s.cells ≡ Some s.id
      → choice_of s.priority caps ≡ Ok algs
      → s.next < 4294967296
      → Goes (station_step r s (StationRecord OnS1 (Ok (record { fields = InitialContext conn cell caps; key = Some (record { key = kenb; number = number }) }))) outcome)
      (given_of s conn cell caps algs kenb)
      (Some (security_command s.id s.next (as_keys_of r kenb algs)))
  station_gives s conn cell caps algs kenb number outcome newer own chosen draws =
      let plain = plain_station r s in
      let above : nat_le conn s.last ≡ false = grind (arith, nat_tests) in
      let enough : at_station.runs_out 1 s.next ≡ false = let l : s.next + 1 ≤ 4294967296 = omega arith in grind (arith, nat_tests) in
      let mine : at_station.is_own plain cell ≡ true = ap (at_station.is_station s.id) own ∙ is_its_own s.id s.id refl in
      let row : at_station.initial_row plain conn cell caps ≡ ContextGiven conn cell caps algs s.next =
      ap (λ b.
      if b then RecordRefused (OldConnection s.last conn)
      else (if at_station.is_own plain cell then at_station.initial_choice plain conn cell caps (choice_of s.priority caps)
      else RecordRefused UnknownCell)) above
      ∙ ap (λ b. if b then at_station.initial_choice plain conn cell caps (choice_of s.priority caps) else RecordRefused UnknownCell) mine
      ∙ ap (at_station.initial_choice plain conn cell caps) chosen
      ∙ ap (λ b. if b then RecordRefused NumberSpent else ContextGiven conn cell caps algs s.next) enough in
      let does = ap (λ x. by_record.record_does r x (Some (record { key = kenb; number = number })) s) row in
      (ap (λ d. d.0) does, ap (λ d. d.1.sent) does)

  -- IT TAKES THE ANSWER of the phone, and its context is active
  pub station_starts : (opener : Opener) (pdu : List ℕ) (came : Option (Outgoing Term ℕ)) (text : List ℕ) (s : Station Term ℕ) (c : Context Term ℕ) (air : ℕ)
      → s.context ≡ Some c
      → c.air ≡ air
      → c.starting ≡ true
      → srb_count c.bearers.srb1.receive pdu ≡ Ok 0
      → opener (OpensSrb (srb_use Up c.keys.rrc_int Signalling1 0) None) pdu came ≡ Opened text
      → read_rrc text ≡ Ok SecurityModeComplete
      → (station_step r s (AirPdu air Srb1 pdu) (opener (station_opens r s (AirPdu air Srb1 pdu)) pdu came)).0
      ≡ record s { context = Some (with_security 0 c) }
  station_starts opener pdu came text s c air context there starting counts opens reads =
      let plain = plain_station r s in
      let at = at_station.air_front plain air (which Srb1) pdu in
      let front : at ≡ at_station.OnStarting 0 =
      ap (λ o. at_station.air_front_by (option_map (state.map_context unseen r.ncc) o) (at_air air plain.preps) air (which Srb1) pdu) context
      ∙ ap (λ b.
      if b then at_station.context_front c.starting c.bearers (which Srb1) pdu
      else at_station.prepared_front (at_air air plain.preps) air (which Srb1) pdu)
      (is_its_own c.air air there)
      ∙ ap (λ b. at_station.context_front b c.bearers (which Srb1) pdu) starting
      ∙ ap (at_station.counted at_station.OnStarting) counts in
      let expects : by_station.air_expects at s ≡ OpensSrb (srb_use Up c.keys.rrc_int Signalling1 0) None =
      ap (λ f. by_station.air_expects f s) front ∙ ap (by_station.starting_expects 0) context in
      let outcome = opener (by_station.air_expects at s) pdu came in
      let out : outcome ≡ Opened text = ap (λ p. opener p pdu came) expects ∙ opens in
      let row : at_station.air_row plain at outcome ≡ SecurityStarted 0 =
      (λ j. at_station.air_row plain (front j) (out j)) ∙ ap (at_station.starting_row 0) reads in
      ap (λ y. (by_station.air_does r y s).0) row ∙ ap (λ o. record s { context = option_map (with_security 0) o }) context
