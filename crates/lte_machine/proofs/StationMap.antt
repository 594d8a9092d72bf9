-- One step of a station, its keys read in another way, is the step of the station read so: opening and keys alike.
use Rattle.std.specs.Prelude.{◌≡◌, ℕ, List, [], ◌∷◌, Option, Some, None, option_map, Result, Ok, Err}
use Rattle.std.proofs.Common.{refl, sym, ap, ◌∙◌}
use Rattle.alg_choice.specs.{declared.algs.Algs.Algs, declared.caps.Caps.Caps, Algs.identity_of, Algs.eia2_identity}
use Rattle.annex_a_keys.specs.Cell.{Place}
use Rattle.rec_base.specs.declared.faults.RecFault.{RecFault}
use Rattle.key_model.specs.{Reading.Reading, Reading.Carries, HandoverTable.NumberedKey, Use.map_use}
use Rattle.key_model.specs.HandoverLines.{map_numbered, star_line, change_line}
use Rattle.key_model.specs.Derivation.{Derivation, map_derivation, star_made}
use Rattle.nh_chain.specs.Station.{StationKey, map_station_key, map_pair, restored_if, Opened, opened}
use Rattle.s1x2_rec.specs.Content.{Content}
use Rattle.ho_prep.specs.Prep.{Prep, map_prep, at_air, drop_below}
use Rattle.ho_prep.specs.declared.origins.By.{By}
use Rattle.x2_handover.specs.declared.orders.Order.{Order}
use Rattle.lte_machine.specs.Bearers.{Srb, Drb, Which}
use Rattle.lte_machine.specs.{Wire.map_outgoing, Reply.Origin, Reply.finished}
use Rattle.lte_machine.specs.Opening.{Outcome, accepted_of}
use Rattle.lte_machine.specs.StationState.{Station, Context, Via, Attempt, SourceKeys, StationInput, StationActs, AirPdu, StationRecord, map_source_keys, map_attempt, map_context, map_station, map_read, map_station_input}
use Rattle.lte_machine.specs.StationRows.{Admitted, RecordRow, ContextGiven, PairTaken, PreparedByS1, PreparedByX2, AttemptAnswered, PreparationCancelled, AirRow, AirRefused, SecurityStarted, RrcOpened, PacketOpened, CompletedByS1, CompletedWithin, CompletedByX2, ActRow, ActRefused, StartedByX2, StartedByS1, StartedWithin, OrderSent, CancelledByX2, CancelledByS1, CancelledWithin, PathSwitchAsked, PacketSent, RrcSent, BearerSkipped, StationRow, OfRecord, OfAir, OfAct, KeyRenewed}
use Rattle.lte_machine.specs.StationChoice.{AirFront, AirSettled, OnStarting, OnSignalling, OnUser, OnPrepared, StationFront, Settled, FromAir, station_front, station_row}
use Rattle.lte_machine.specs.StationKeys as keys
use Rattle.lte_machine.specs.StationRecords as record_keys
use Rattle.lte_machine.specs.StationStep.{key_read, station_key, station_front_of, station_opens, station_row_of, station_step}
use Rattle.lte_machine.proofs.{StationPlain.station_plain, StationPlain.input_plain, MapSteps.map_opening, MapSteps.map_station_done, MapSteps.accepted-map, MapSteps.received-map}
use Rattle.nh_chain.proofs.CarryFacts.{map_opened}
use Rattle.ho_prep.proofs.CarryFacts.{at_air-map, without-map, drop_below-map}
use Rattle.std.proofs.lemmas.List.{map-append}

module _ {K C L D : Type 0} {r : Reading K C} {q : Reading L D} {f : K → L} {g : C → D} (c : Carries r q f g) where
  -- OPENING

  starting_expects_map : (count : ℕ) (o : Option (Context K C)) →
      map_opening f (keys.starting_expects count o) ≡ keys.starting_expects count (option_map (map_context f g) o)
  starting_expects_map count None = refl
  starting_expects_map count (Some x) = refl

  signalling_expects_map : (srb : Srb) (count : ℕ) (o : Option (Context K C)) →
      map_opening f (keys.signalling_expects srb count o)
      ≡ keys.signalling_expects srb count (option_map (map_context f g) o)
  signalling_expects_map srb count None = refl
  signalling_expects_map srb count (Some x) = refl

  user_expects_map : (drb : Drb) (count : ℕ) (o : Option (Context K C)) →
      map_opening f (keys.user_expects drb count o) ≡ keys.user_expects drb count (option_map (map_context f g) o)
  user_expects_map drb count None = refl
  user_expects_map drb count (Some x) = refl

  prepared_expects_map : (count : ℕ) (o : Option (Prep K C)) →
      map_opening f (keys.prepared_expects count o) ≡ keys.prepared_expects count (option_map (map_prep f g) o)
  prepared_expects_map count None = refl
  prepared_expects_map count (Some p) = refl

  air_expects_map : (front : AirFront) (s : Station K C) →
      map_opening f (keys.air_expects front s) ≡ keys.air_expects front (map_station f g s)
  air_expects_map (AirSettled row) s = refl
  air_expects_map (OnStarting count) s = starting_expects_map count s.context
  air_expects_map (OnSignalling srb count) s = signalling_expects_map srb count s.context
  air_expects_map (OnUser drb count) s = user_expects_map drb count s.context
  air_expects_map (OnPrepared air by count) s =
      prepared_expects_map count (at_air air s.preps) ∙ ap (keys.prepared_expects count) (sym (at_air-map f g air s.preps))

  expects_map : (front : StationFront) (s : Station K C) →
      map_opening f (keys.station_expects front s) ≡ keys.station_expects front (map_station f g s)
  expects_map (Settled row) s = refl
  expects_map (FromAir front) s = air_expects_map front s

  -- the choice stops at the same place
  front_map : (s : Station K C) (i : StationInput K C) →
      station_front_of r s i ≡ station_front_of q (map_station f g s) (map_station_input f g i)
  front_map s i = λ j. station_front (sym (station_plain c s) j) (sym (input_plain c i) j)

  -- and takes the same row
  row_map : (s : Station K C) (i : StationInput K C) (outcome : Outcome) →
      station_row_of r s i outcome ≡ station_row_of q (map_station f g s) (map_station_input f g i) outcome
  row_map s i outcome = λ j. station_row (sym (station_plain c s) j) (front_map s i j) outcome

  pub station_opens_map : (s : Station K C) (i : StationInput K C) →
      map_opening f (station_opens r s i) ≡ station_opens q (map_station f g s) (map_station_input f g i)
  station_opens_map s i =
      expects_map (station_front_of r s i) s ∙ (λ j. keys.station_expects (front_map s i j) (map_station f g s))

  -- RECORDS

  context_given_map : (conn : ℕ) (cell : Place) (caps : Caps) (algs : Algs) (air : ℕ) (key : Option (NumberedKey K C))
      (s : Station K C) →
      map_station_done f g (record_keys.context_given r conn cell caps algs air key s)
      ≡ record_keys.context_given q conn cell caps algs air (option_map (map_numbered f g) key) (map_station f g s)
  context_given_map conn cell caps algs air None s = refl
  context_given_map conn cell caps algs air (Some x) s =
      rw (c.alg x.key 3 (identity_of algs.eea), c.alg x.key 4 eia2_identity, c.alg x.key 5 (identity_of algs.eea), ← c.ncc r.first, c.first) refl

  with_pair_map : (pair : NumberedKey K C) (o : Option (Context K C)) →
      option_map (map_context f g) (option_map (record_keys.with_pair pair) o)
      ≡ option_map (record_keys.with_pair (map_numbered f g pair)) (option_map (map_context f g) o)
  with_pair_map pair None = refl
  with_pair_map pair (Some x) = refl

  release_map : (conn : ℕ) (o : Option Origin) →
      option_map (map_outgoing f g) (record_keys.source_release conn o) ≡ record_keys.source_release conn o
  release_map conn None = refl
  release_map conn (Some o) = refl

  pair_taken_map : (conn : ℕ) (origin : Option Origin) (key : Option (NumberedKey K C)) (s : Station K C) →
      map_station_done f g (record_keys.pair_taken conn origin key s)
      ≡ record_keys.pair_taken conn origin (option_map (map_numbered f g) key) (map_station f g s)
  pair_taken_map conn origin None s = refl
  pair_taken_map conn origin (Some pair) s = rw (with_pair_map pair s.context, release_map conn origin) refl

  admitted_preps_map : (w : Admitted) (p : Prep K C) (s : Station K C) →
      map_station f g (record_keys.with_admitted w p s) ≡ record_keys.with_admitted w (map_prep f g p) (map_station f g s)
  admitted_preps_map w p s =
      rw (map-append (map_prep f g) (drop_below w.conn s.preps) (p ∷ []), ← drop_below-map f g w.conn s.preps) refl

  prepared_by_x2_map : (w : Admitted) (key : Option (NumberedKey K C)) (s : Station K C) →
      map_station_done f g (record_keys.prepared_by_x2 r w key s)
      ≡ record_keys.prepared_by_x2 q w (option_map (map_numbered f g) key) (map_station f g s)
  prepared_by_x2_map w None s = refl
  prepared_by_x2_map w (Some star) s =
      rw (
        admitted_preps_map w (record_keys.admitted_prep r w By.X2 star) s,
        c.alg star.key 3 (identity_of w.algs.eea),
        c.alg star.key 4 eia2_identity,
        c.alg star.key 5 (identity_of w.algs.eea),
        c.ncc star.number,
      )
      refl

  prepared_by_s1_with_map : (w : Admitted) (made : Derivation K) (star : NumberedKey K C) (s : Station K C) →
      map_station_done f g (record_keys.prepared_by_s1_with r w made star s)
      ≡ record_keys.prepared_by_s1_with q w (map_derivation f made) (map_numbered f g star) (map_station f g s)
  prepared_by_s1_with_map w made star s =
      rw (
        admitted_preps_map w (record_keys.admitted_prep r w By.S1 star) s,
        c.alg star.key 3 (identity_of w.algs.eea),
        c.alg star.key 4 eia2_identity,
        c.alg star.key 5 (identity_of w.algs.eea),
        c.ncc star.number,
      )
      refl

  star_line_map : (base : NumberedKey K C) (cell : Place) →
      map_numbered f g (star_line r base cell.pci cell.earfcn) ≡ star_line q (map_numbered f g base) cell.pci cell.earfcn
  star_line_map base cell = rw (c.star base.key cell.pci cell.earfcn) refl

  star_made_map : (base : K) (cell : Place) →
      map_derivation f (star_made r base cell.pci cell.earfcn) ≡ star_made q (f base) cell.pci cell.earfcn
  star_made_map base cell = rw (c.star base cell.pci cell.earfcn) refl

  prepared_by_s1_map : (w : Admitted) (key : Option (NumberedKey K C)) (s : Station K C) →
      map_station_done f g (record_keys.prepared_by_s1 r w key s)
      ≡ record_keys.prepared_by_s1 q w (option_map (map_numbered f g) key) (map_station f g s)
  prepared_by_s1_map w None s = refl
  prepared_by_s1_map w (Some pair) s =
      prepared_by_s1_with_map w (star_made r pair.key w.cell.pci w.cell.earfcn)
      (star_line r pair w.cell.pci w.cell.earfcn) s
      ∙ (λ j. record_keys.prepared_by_s1_with q w (star_made_map pair.key w.cell j) (star_line_map pair w.cell j)
      (map_station f g s))

  answered_map : (order : Order) (o : Option (Attempt K C)) →
      option_map (map_attempt f g) (option_map (record_keys.answered order) o)
      ≡ option_map (record_keys.answered order) (option_map (map_attempt f g) o)
  answered_map order None = refl
  answered_map order (Some a) = refl

  with_answer_map : (order : Order) (o : Option (Context K C)) →
      option_map (map_context f g) (option_map (record_keys.with_answer order) o)
      ≡ option_map (record_keys.with_answer order) (option_map (map_context f g) o)
  with_answer_map order None = refl
  with_answer_map order (Some x) = rw (answered_map order x.attempt) refl

  own_prep_map : (conn id number air : ℕ) (cell : Place) (x : Context K C) (star : NumberedKey K C) →
      map_prep f g (record_keys.own_prep r conn id number air cell x star)
      ≡ record_keys.own_prep q conn id number air cell (map_context f g x) (map_numbered f g star)
  own_prep_map conn id number air cell x star =
      rw (c.alg star.key 3 (identity_of x.algs.eea), c.alg star.key 4 eia2_identity, c.alg star.key 5 (identity_of x.algs.eea)) refl

  change_line_map : (kenb : K) (cell : Place) →
      map_numbered f g (change_line r kenb cell.pci cell.earfcn) ≡ change_line q (f kenb) cell.pci cell.earfcn
  change_line_map kenb cell = rw (c.star kenb cell.pci cell.earfcn, c.first) refl

  key_renewed_with_map : (conn number air count : ℕ) (x : Context K C) (made : Derivation K) (star : NumberedKey K C) (s : Station K C) →
      map_station_done f g (record_keys.key_renewed_with r conn number air count x made star s)
      ≡ record_keys.key_renewed_with q conn number air count (map_context f g x) (map_derivation f made) (map_numbered f g star) (map_station f g s)
  key_renewed_with_map conn number air count x made star s =
      rw (own_prep_map conn s.id number air x.cell x star, c.alg star.key 3 (identity_of x.algs.eea), c.alg star.key 4 eia2_identity, c.alg star.key 5 (identity_of x.algs.eea), c.ncc star.number) refl

  key_renewed_map : (conn number air count : ℕ) (o : Option (Context K C)) (key : Option (NumberedKey K C)) (s : Station K C) →
      map_station_done f g (record_keys.key_renewed r conn number air count o key s)
      ≡ record_keys.key_renewed q conn number air count (option_map (map_context f g) o) (option_map (map_numbered f g) key) (map_station f g s)
  key_renewed_map conn number air count None key s = refl
  key_renewed_map conn number air count (Some x) None s = refl
  key_renewed_map conn number air count (Some x) (Some kenb) s =
      key_renewed_with_map conn number air count x (star_made r kenb.key x.cell.pci x.cell.earfcn)
      (change_line r kenb.key x.cell.pci x.cell.earfcn) s
      ∙ (λ j. record_keys.key_renewed_with q conn number air count (map_context f g x) (star_made_map kenb.key x.cell j)
      (change_line_map kenb.key x.cell j) (map_station f g s))

  record_does_map : (row : RecordRow) (key : Option (NumberedKey K C)) (s : Station K C) →
      map_station_done f g (record_keys.record_does r row key s)
      ≡ record_keys.record_does q row (option_map (map_numbered f g) key) (map_station f g s)
  record_does_map (ContextGiven conn cell caps algs air) key s = context_given_map conn cell caps algs air key s
  record_does_map (PairTaken conn origin) key s = pair_taken_map conn origin key s
  record_does_map (PreparedByS1 w) key s = prepared_by_s1_map w key s
  record_does_map (PreparedByX2 w) key s = prepared_by_x2_map w key s
  record_does_map (AttemptAnswered order) key s = rw (with_answer_map order s.context) refl
  record_does_map (PreparationCancelled from) key s = rw (← without-map f g from.source from.attempt s.preps) refl
  record_does_map (KeyRenewed conn number air count) key s = key_renewed_map conn number air count s.context key s
  record_does_map other key s = refl

  -- PDUS OF RADIO BEARERS

  with_security_map : (count : ℕ) (o : Option (Context K C)) →
      option_map (map_context f g) (option_map (keys.with_security count) o)
      ≡ option_map (keys.with_security count) (option_map (map_context f g) o)
  with_security_map count None = refl
  with_security_map count (Some x) = refl

  with_rrc_taken_map : (srb : Srb) (count : ℕ) (o : Option (Context K C)) →
      option_map (map_context f g) (option_map (keys.with_rrc_taken srb count) o)
      ≡ option_map (keys.with_rrc_taken srb count) (option_map (map_context f g) o)
  with_rrc_taken_map srb count None = refl
  with_rrc_taken_map srb count (Some x) = refl

  with_packet_taken_map : (drb : Drb) (count : ℕ) (o : Option (Context K C)) →
      option_map (map_context f g) (option_map (keys.with_packet_taken drb count) o)
      ≡ option_map (keys.with_packet_taken drb count) (option_map (map_context f g) o)
  with_packet_taken_map drb count None = refl
  with_packet_taken_map drb count (Some x) = refl

  completed_by_s1_map : (count : ℕ) (o : Option (Prep K C)) (s : Station K C) →
      map_station_done f g (keys.completed_by_s1 r count o s)
      ≡ keys.completed_by_s1 q count (option_map (map_prep f g) o) (map_station f g s)
  completed_by_s1_map count None s = refl
  completed_by_s1_map count (Some p) s = rw (c.ncc p.key.number) refl

  completed_within_map : (count : ℕ) (origin : Option Origin) (o : Option (Prep K C)) (s : Station K C) →
      map_station_done f g (keys.completed_within r count origin o s)
      ≡ keys.completed_within q count origin (option_map (map_prep f g) o) (map_station f g s)
  completed_within_map count origin None s = refl
  completed_within_map count origin (Some p) s = rw (c.ncc p.key.number) refl

  completed_by_x2_map : (count number : ℕ) (o : Option (Prep K C)) (s : Station K C) →
      map_station_done f g (keys.completed_by_x2 r count number o s)
      ≡ keys.completed_by_x2 q count number (option_map (map_prep f g) o) (map_station f g s)
  completed_by_x2_map count number None s = refl
  completed_by_x2_map count number (Some p) s = rw (c.ncc p.key.number) refl

  air_does_map : (row : AirRow) (s : Station K C) →
      map_station_done f g (keys.air_does r row s) ≡ keys.air_does q row (map_station f g s)
  air_does_map (AirRefused answer) s = refl
  air_does_map (SecurityStarted count) s = rw (with_security_map count s.context) refl
  air_does_map (RrcOpened srb count text) s = rw (with_rrc_taken_map srb count s.context) refl
  air_does_map (PacketOpened drb count text) s = rw (with_packet_taken_map drb count s.context) refl
  air_does_map (CompletedByS1 air count) s = rw (at_air-map f g air s.preps) (completed_by_s1_map count (at_air air s.preps) s)
  air_does_map (CompletedWithin air count origin) s =
      rw (at_air-map f g air s.preps) (completed_within_map count origin (at_air air s.preps) s)
  air_does_map (CompletedByX2 air count number) s =
      rw (at_air-map f g air s.preps) (completed_by_x2_map count number (at_air air s.preps) s)

  -- ACTS

  opened_map : (key : StationKey K C) (cell : Place) →
      map_opened f g (opened r key cell) ≡ opened q (map_station_key f g key) cell
  opened_map key cell = by_pair key.pair
    where
      by_pair : (pair : Option (NumberedKey K C)) →
          map_opened f g (opened r (record key { pair = pair }) cell)
          ≡ opened q (map_station_key f g (record key { pair = pair })) cell
      by_pair None = rw (c.star key.kenb cell.pci cell.earfcn) refl
      by_pair (Some pair) = rw (c.star pair.key cell.pci cell.earfcn) refl

  started_by_x2_with_map : (number target : ℕ) (cell : Place) (x : Context K C) (o : Opened K C) (s : Station K C) →
      map_station_done f g (keys.started_by_x2_with r number target cell x o s)
      ≡ keys.started_by_x2_with q number target cell (map_context f g x) (map_opened f g o) (map_station f g s)
  started_by_x2_with_map number target cell x o s = rw (c.ncc o.star.number) refl

  started_by_x2_map : (number target : ℕ) (cell : Place) (o : Option (Context K C)) (s : Station K C) →
      map_station_done f g (keys.started_by_x2 r number target cell o s)
      ≡ keys.started_by_x2 q number target cell (option_map (map_context f g) o) (map_station f g s)
  started_by_x2_map number target cell None s = refl
  started_by_x2_map number target cell (Some x) s =
      started_by_x2_with_map number target cell x (opened r x.key cell) s
      ∙ (λ j. keys.started_by_x2_with q number target cell (map_context f g x) (opened_map x.key cell j) (map_station f g s))

  started_by_s1_map : (number target : ℕ) (cell : Place) (o : Option (Context K C)) (s : Station K C) →
      map_station_done f g (keys.started_by_s1 number target cell o s)
      ≡ keys.started_by_s1 number target cell (option_map (map_context f g) o) (map_station f g s)
  started_by_s1_map number target cell None s = refl
  started_by_s1_map number target cell (Some x) s = refl

  started_within_with_map : (number air : ℕ) (cell : Place) (x : Context K C) (o : Opened K C) (s : Station K C) →
      map_station_done f g (keys.started_within_with r number air cell x o s)
      ≡ keys.started_within_with q number air cell (map_context f g x) (map_opened f g o) (map_station f g s)
  started_within_with_map number air cell x o s =
      rw (
        map-append (map_prep f g) s.preps (record_keys.own_prep r x.conn s.id number air cell x o.star ∷ []),
        c.alg o.star.key 3 (identity_of x.algs.eea),
        c.alg o.star.key 4 eia2_identity,
        c.alg o.star.key 5 (identity_of x.algs.eea),
        c.ncc o.star.number,
      )
      refl

  started_within_map : (number air : ℕ) (cell : Place) (o : Option (Context K C)) (s : Station K C) →
      map_station_done f g (keys.started_within r number air cell o s)
      ≡ keys.started_within q number air cell (option_map (map_context f g) o) (map_station f g s)
  started_within_map number air cell None s = refl
  started_within_map number air cell (Some x) s =
      started_within_with_map number air cell x (opened r x.key cell) s
      ∙ (λ j. keys.started_within_with q number air cell (map_context f g x) (opened_map x.key cell j) (map_station f g s))

  commanded_map : (order : Order) (o : Option (Attempt K C)) →
      option_map (map_attempt f g) (option_map (keys.commanded order) o)
      ≡ option_map (keys.commanded order) (option_map (map_attempt f g) o)
  commanded_map order None = refl
  commanded_map order (Some a) = refl

  commands_map : (via : Via) (order : Order) (count : ℕ) (o : Option (Context K C)) (s : Station K C) →
      map_station_done f g (keys.commands via order count o s)
      ≡ keys.commands via order count (option_map (map_context f g) o) (map_station f g s)
  commands_map via order count None s = refl
  commands_map via order count (Some x) s = rw (commanded_map order x.attempt) refl

  spent_of_map : (o : Option (SourceKeys K C)) → map_pair f g (keys.spent_of o) ≡ keys.spent_of (option_map (map_source_keys f g) o)
  spent_of_map None = refl
  spent_of_map (Some kept) = refl

  spent_in_map : (o : Option (Attempt K C)) →
      map_pair f g (keys.spent_in o) ≡ keys.spent_in (option_map (map_attempt f g) o)
  spent_in_map None = refl
  spent_in_map (Some a) = spent_of_map a.keys

  restored_map : (kenb : K) (number : C) (pair back : Option (NumberedKey K C)) →
      map_station_key f g (restored_if (record { kenb = kenb; number = number; pair = pair }) back)
      ≡ restored_if (record { kenb = f kenb; number = g number; pair = map_pair f g pair }) (map_pair f g back)
  restored_map kenb number pair None = refl
  restored_map kenb number None (Some back) = refl
  restored_map kenb number (Some newer) (Some back) = refl

  given_up_map : (o : Option (Context K C)) →
      option_map (map_context f g) (option_map keys.given_up o)
      ≡ option_map keys.given_up (option_map (map_context f g) o)
  given_up_map None = refl
  given_up_map (Some x) = rw (← spent_in_map x.attempt, restored_map x.key.kenb x.key.number x.key.pair (keys.spent_in x.attempt)) refl

  asks_again_map : (number : ℕ) (o : Option (Context K C)) (s : Station K C) →
      map_station_done f g (keys.asks_again number o s)
      ≡ keys.asks_again number (option_map (map_context f g) o) (map_station f g s)
  asks_again_map number None s = refl
  asks_again_map number (Some x) s = refl

  sends_packet_map : (drb : Drb) (count : ℕ) (text : List ℕ) (o : Option (Context K C)) (s : Station K C) →
      map_station_done f g (keys.sends_packet drb count text o s)
      ≡ keys.sends_packet drb count text (option_map (map_context f g) o) (map_station f g s)
  sends_packet_map drb count text None s = refl
  sends_packet_map drb count text (Some x) s = refl

  sends_rrc_map : (srb : Srb) (count : ℕ) (text : List ℕ) (o : Option (Context K C)) (s : Station K C) →
      map_station_done f g (keys.sends_rrc srb count text o s)
      ≡ keys.sends_rrc srb count text (option_map (map_context f g) o) (map_station f g s)
  sends_rrc_map srb count text None s = refl
  sends_rrc_map srb count text (Some x) s = refl

  with_skipped_map : (on : Which) (n : ℕ) (o : Option (Context K C)) →
      option_map (map_context f g) (option_map (keys.with_skipped on n) o)
      ≡ option_map (keys.with_skipped on n) (option_map (map_context f g) o)
  with_skipped_map on n None = refl
  with_skipped_map on n (Some x) = refl

  act_does_map : (row : ActRow) (s : Station K C) →
      map_station_done f g (keys.act_does r row s) ≡ keys.act_does q row (map_station f g s)
  act_does_map (ActRefused answer) s = refl
  act_does_map (StartedByX2 number target cell) s = started_by_x2_map number target cell s.context s
  act_does_map (StartedByS1 number target cell) s = started_by_s1_map number target cell s.context s
  act_does_map (StartedWithin number air cell) s = started_within_map number air cell s.context s
  act_does_map (OrderSent via order count) s = commands_map via order count s.context s
  act_does_map (CancelledByX2 conn number target) s = rw (given_up_map s.context) refl
  act_does_map (CancelledByS1 conn number cell) s = rw (given_up_map s.context) refl
  act_does_map (CancelledWithin number) s =
      rw (given_up_map s.context, ← without-map f g s.id number s.preps) refl
  act_does_map (PathSwitchAsked number) s = asks_again_map number s.context s
  act_does_map (PacketSent drb count text) s = sends_packet_map drb count text s.context s
  act_does_map (RrcSent srb count text) s = sends_rrc_map srb count text s.context s
  act_does_map (BearerSkipped on n) s = rw (with_skipped_map on n s.context) refl

  -- THE STEP

  -- every row does the same
  pub station_does_map : (row : StationRow) (key : Option (NumberedKey K C)) (s : Station K C) →
      map_station_done f g (keys.station_does r row key s)
      ≡ keys.station_does q row (option_map (map_numbered f g) key) (map_station f g s)
  station_does_map (OfRecord row) key s = record_does_map row key s
  station_does_map (OfAir row) key s = air_does_map row s
  station_does_map (OfAct row) key s = act_does_map row s

  key_read_map : (read : Result (Content K C) RecFault) →
      option_map (map_numbered f g) (key_read read) ≡ key_read (map_read f g read)
  key_read_map (Ok content) = refl
  key_read_map (Err fault) = refl

  station_key_map : (i : StationInput K C) →
      option_map (map_numbered f g) (station_key i) ≡ station_key (map_station_input f g i)
  station_key_map (StationActs act) = refl
  station_key_map (AirPdu air bearer pdu) = refl
  station_key_map (StationRecord interface read) = key_read_map read

  does_step_map : (s : Station K C) (i : StationInput K C) (outcome : Outcome) →
      map_station_done f g (keys.station_does r (station_row_of r s i outcome) (station_key i) s)
      ≡ keys.station_does q (station_row_of q (map_station f g s) (map_station_input f g i) outcome)
      (station_key (map_station_input f g i)) (map_station f g s)
  does_step_map s i outcome =
      station_does_map (station_row_of r s i outcome) (station_key i) s
      ∙ (λ j. keys.station_does q (row_map s i outcome j) (station_key_map i j) (map_station f g s))

  accepted_step_map : (s : Station K C) (i : StationInput K C) (outcome : Outcome) →
      option_map (map_use f) (accepted_of (station_opens r s i) outcome)
      ≡ accepted_of (station_opens q (map_station f g s) (map_station_input f g i)) outcome
  accepted_step_map s i outcome =
      accepted-map f (station_opens r s i) outcome ∙ (λ j. accepted_of (station_opens_map s i j) outcome)

  received_step_map : (i : StationInput K C) →
      option_map f (option_map (λ x. x.key) (station_key i)) ≡ option_map (λ x. x.key) (station_key (map_station_input f g i))
  received_step_map i = received-map f g (station_key i) ∙ (λ j. option_map (λ x. x.key) (station_key_map i j))

  pub station_step_map : (s : Station K C) (i : StationInput K C) (outcome : Outcome) →
      map_station_done f g (station_step r s i outcome)
      ≡ station_step q (map_station f g s) (map_station_input f g i) outcome
  station_step_map s i outcome = λ j. (
    (does_step_map s i outcome j).0,
    finished (received_step_map i j) (accepted_step_map s i outcome j) (does_step_map s i outcome j).1,
  )
