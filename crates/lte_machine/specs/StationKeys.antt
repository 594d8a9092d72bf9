-- Which uses a station expects, and what it does on a PDU and by an act, with its keys: every key is a derivation of a key that it
-- holds, or is such a key moved (TS 33.401 7.2.8.4 and Annex A).
use Rattle.std.specs.Prelude.{ℕ, ◌+◌, false, List, [], ◌∷◌, ◌++◌, Option, Some, None, option_map}
use Rattle.annex_a_keys.specs.Cell.{Place}
use Rattle.rec_base.specs.{declared.uses.Dir.TheVariants.Up, declared.ways.Way.TheVariants.Completed}
use Rattle.lte_events.specs.{declared.addresses.Address.TheVariants.StationX2, declared.answers.Answer.TheVariants.Done}
use Rattle.key_model.specs.{Reading.Reading, HandoverTable.NumberedKey}
use Rattle.nh_chain.specs.Station.{StationKey, restored_if, Opened, opened}
use Rattle.pdcp_guard.specs.AsKeys.{AsKeys, as_derivations}
use Rattle.rrc_rec.specs.{declared.records.RrcRecord.TheVariants.RrcData, Spelling.spelling_of}
use Rattle.s1x2_rec.specs.Fields.{PathSwitchRequest, HandoverRequired, HandoverNotify, HandoverCancel, X2Request, X2Cancel}
use Rattle.ho_prep.specs.Prep.{Prep, at_air, without}
use Rattle.x2_handover.specs.declared.orders.Order.{Order}
use Rattle.lte_machine.specs.Bearers.{Srb, Signalling1, Drb, Which, new_bearers, srb_sent, drb_sent, srb_taken, drb_taken, skipped_on}
use Rattle.lte_machine.specs.Wire.{Outgoing, Between, srb_use, srb_ciphering, drb_ciphering}
use Rattle.lte_machine.specs.Opening.{Opening, OpensNothing, OpensSrb, OpensDrb}
use Rattle.lte_machine.specs.Reply.{Origin, ByAttempt, Reply, only, BySource, ByTarget}
use Rattle.lte_machine.specs.StationState.{Station, Context, Via, OverX2, OverS1, Within, Open, Ready, Commanded, SourceKeys, Attempt}
use Rattle.lte_machine.specs.StationRows.{AirRow, AirRefused, SecurityStarted, RrcOpened, PacketOpened, CompletedByS1, CompletedWithin, CompletedByX2, ActRow, ActRefused, StartedByX2, StartedByS1, StartedWithin, OrderSent, CancelledByX2, CancelledByS1, CancelledWithin, PathSwitchAsked, PacketSent, RrcSent, BearerSkipped, StationRow, OfRecord, OfAir, OfAct}
use Rattle.lte_machine.specs.StationChoice.{AirFront, AirSettled, OnStarting, OnSignalling, OnUser, OnPrepared, StationFront, Settled, FromAir}
use Rattle.lte_machine.specs.StationRecords.{signalling_sent, packet_sent, order_text, to_core, to_station, note_of, own_prep, record_does}

-- OPENING: WHICH USES A STATION EXPECTS (TS 36.323 5.6 and 5.7)

-- on an SRB: ciphered from the Security Mode Complete on (TS 36.331 5.3.4.3)
abbrev pub signalling_opening : {K : Type 0} → AsKeys K → Srb → ℕ → Opening K
signalling_opening keys srb count =
    OpensSrb (srb_use Up keys.rrc_int srb count) (Some (srb_ciphering Up keys srb count))

abbrev pub user_opening : {K : Type 0} → AsKeys K → Drb → ℕ → Opening K
user_opening keys drb count = OpensDrb (drb_ciphering Up keys drb count)

abbrev pub starting_expects : {K C : Type 0} → ℕ → Option (Context K C) → Opening K
starting_expects count None = OpensNothing
starting_expects count (Some c) = OpensSrb (srb_use Up c.keys.rrc_int Signalling1 count) None

abbrev pub signalling_expects : {K C : Type 0} → Srb → ℕ → Option (Context K C) → Opening K
signalling_expects srb count None = OpensNothing
signalling_expects srb count (Some c) = signalling_opening c.keys srb count

abbrev pub user_expects : {K C : Type 0} → Drb → ℕ → Option (Context K C) → Opening K
user_expects drb count None = OpensNothing
user_expects drb count (Some c) = user_opening c.keys drb count

-- the keys of the preparation at the air address
abbrev pub prepared_expects : {K C : Type 0} → ℕ → Option (Prep K C) → Opening K
prepared_expects count None = OpensNothing
prepared_expects count (Some p) = signalling_opening p.keys Signalling1 count

abbrev pub air_expects : {K C : Type 0} → AirFront → Station K C → Opening K
air_expects (AirSettled row) s = OpensNothing
air_expects (OnStarting count) s = starting_expects count s.context
air_expects (OnSignalling srb count) s = signalling_expects srb count s.context
air_expects (OnUser drb count) s = user_expects drb count s.context
air_expects (OnPrepared air by count) s = prepared_expects count (at_air air s.preps)

abbrev pub station_expects : {K C : Type 0} → StationFront → Station K C → Opening K
station_expects (Settled row) s = OpensNothing
station_expects (FromAir front) s = air_expects front s

-- ROWS BY A PDU

abbrev pub with_security : {K C : Type 0} → ℕ → Context K C → Context K C
with_security count c = record c { starting = false; bearers = srb_taken Signalling1 count c.bearers }

abbrev pub with_rrc_taken : {K C : Type 0} → Srb → ℕ → Context K C → Context K C
with_rrc_taken srb count c = record c { bearers = srb_taken srb count c.bearers }

abbrev pub with_packet_taken : {K C : Type 0} → Drb → ℕ → Context K C → Context K C
with_packet_taken drb count c = record c { bearers = drb_taken drb count c.bearers }

-- a preparation becomes the context: its key is the KeNB now, and all COUNTs start at 0 (TS 33.401 7.2.8.4, TS 36.323 5.2)
abbrev pub arrived : {K C : Type 0} → ℕ → Option ℕ → Option Origin → Prep K C → Context K C
arrived count outstanding origin p = record {
  conn = p.conn;
  cell = p.cell;
  air = p.air;
  key = p.key;
  algs = p.algs;
  keys = p.keys;
  caps = p.caps;
  starting = false;
  bearers = srb_taken Signalling1 count new_bearers;
  attempt = None;
  outstanding = outstanding;
  origin = origin;
}

-- what is told of it, and what is sent
abbrev pub arrival : {K C : Type 0} → Reading K C → Option (Outgoing K C) → StationKey K C → Reply K C
arrival r sent key = record (only Done) {
  sent = sent;
  note = Some (note_of r Completed (record { key = key.kenb; number = key.number }));
}

-- this project's own rule: the old context and all other preparations are dropped. After S1 the core is notified
-- (TS 36.413 8.4.3), after a handover within the station nobody (TS 33.401 7.2.8.4.1)
abbrev pub completed_by_s1 : {K C : Type 0} →
    Reading K C → ℕ → Option (Prep K C) → Station K C → Station K C × Reply K C
completed_by_s1 r count None s = (s, only Done)
completed_by_s1 r count (Some p) s = (
  record s { context = Some (arrived count None None p); preps = [] },
  arrival r (Some (to_core (HandoverNotify p.conn s.id p.cell))) p.key,
)

abbrev pub completed_within : {K C : Type 0} →
    Reading K C → ℕ → Option Origin → Option (Prep K C) → Station K C → Station K C × Reply K C
completed_within r count origin None s = (s, only Done)
completed_within r count origin (Some p) s =
    (record s { context = Some (arrived count None origin p); preps = [] }, arrival r None p.key)

-- after X2 the core is asked for a pair (TS 36.413 8.4.4, TS 33.401 7.2.8.4.2)
abbrev pub completed_by_x2 : {K C : Type 0} →
    Reading K C → ℕ → ℕ → Option (Prep K C) → Station K C → Station K C × Reply K C
completed_by_x2 r count number None s = (s, only Done)
completed_by_x2 r count number (Some p) s = (
  record s {
    next = number + 1;
    context = Some (arrived count (Some number) (Some (record { source = p.source; attempt = p.attempt })) p);
    preps = [];
  },
  arrival r (Some (to_core (PathSwitchRequest p.conn s.id number p.cell p.caps))) p.key,
)

abbrev pub air_does : {K C : Type 0} → Reading K C → AirRow → Station K C → Station K C × Reply K C
air_does r (AirRefused answer) s = (s, only answer)
air_does r (SecurityStarted count) s = (record s { context = option_map (with_security count) s.context }, only Done)
air_does r (RrcOpened srb count text) s =
    (record s { context = option_map (with_rrc_taken srb count) s.context }, record (only Done) { opened = text })
air_does r (PacketOpened drb count text) s =
    (record s { context = option_map (with_packet_taken drb count) s.context }, record (only Done) { opened = Some text })
air_does r (CompletedByS1 air count) s = completed_by_s1 r count (at_air air s.preps) s
air_does r (CompletedWithin air count origin) s = completed_within r count origin (at_air air s.preps) s
air_does r (CompletedByX2 air count number) s = completed_by_x2 r count number (at_air air s.preps) s

-- ROWS BY AN ACT

-- KeNB* comes from the stored pair, which moves into the attempt, and is vertical; with none from the active KeNB, and is
-- horizontal (TS 33.401 7.2.8.4.1, 7.2.8.4.2)
abbrev pub source_keys : {K C : Type 0} → Opened K C → SourceKeys K C
source_keys o = record { star = o.star; spent = o.spent }

-- X2 Handover Request with KeNB* and its NCC (TS 36.423 8.2.1)
abbrev pub started_by_x2_with : {K C : Type 0} →
    Reading K C → ℕ → ℕ → Place → Context K C → Opened K C → Station K C → Station K C × Reply K C
started_by_x2_with r number target cell c o s = (
  record s {
    next = number + 1;
    context = Some (record c {
      key = o.key;
      attempt = Some (record {
        number = number;
        station = target;
        cell = cell;
        via = OverX2;
        keys = Some (source_keys o);
        progress = Open;
      });
    });
  },
  record (only Done) {
    sent = Some (Between (StationX2 target) (X2Request c.conn s.id number cell c.caps) (Some o.star));
    derived = o.made ∷ [];
    note = Some (note_of r o.way o.star);
    tried = Some (record {
      station = s.id;
      attempt = number;
      target = target;
      conn = c.conn;
      cell = cell;
      key = c.key.kenb;
      number = c.key.number;
      kind = BySource o.star;
    });
  },
)

abbrev pub started_by_x2 : {K C : Type 0} →
    Reading K C → ℕ → ℕ → Place → Option (Context K C) → Station K C → Station K C × Reply K C
started_by_x2 r number target cell None s = (s, only Done)
started_by_x2 r number target cell (Some c) s = started_by_x2_with r number target cell c (opened r c.key cell) s

-- Handover Required: the core gives the target its pair, and the stored pair stays (TS 36.413 8.4.1, TS 33.401 7.2.8.4.3)
abbrev pub started_by_s1 : {K C : Type 0} →
    ℕ → ℕ → Place → Option (Context K C) → Station K C → Station K C × Reply K C
started_by_s1 number target cell None s = (s, only Done)
started_by_s1 number target cell (Some c) s = (
  record s {
    next = number + 1;
    context = Some (record c {
      attempt = Some (record {
        number = number;
        station = target;
        cell = cell;
        via = OverS1;
        keys = None;
        progress = Open;
      });
    });
  },
  record (only Done) {
    sent = Some (to_core (HandoverRequired c.conn s.id number cell));
    tried = Some (record {
      station = s.id;
      attempt = number;
      target = target;
      conn = c.conn;
      cell = cell;
      key = c.key.kenb;
      number = c.key.number;
      kind = ByTarget;
    });
  },
)

-- within the station the preparation is added, and the attempt is ready at once; the algorithms stay (TS 33.401 7.2.8.4.1,
-- 7.2.4.2.4)
abbrev pub started_within_with : {K C : Type 0} →
    Reading K C → ℕ → ℕ → Place → Context K C → Opened K C → Station K C → Station K C × Reply K C
started_within_with r number air cell c o s = (
  record s {
    next = air + 1;
    context = Some (record c {
      key = o.key;
      attempt = Some (record {
        number = number;
        station = s.id;
        cell = cell;
        via = Within;
        keys = Some (source_keys o);
        progress = Ready (record { cell = cell; ncc = r.ncc o.star.number; algs = c.algs; station = s.id; air = air });
      });
    });
    preps = s.preps ++ own_prep r c.conn s.id number air cell c o.star ∷ [];
  },
  record (only Done) {
    derived = o.made ∷ as_derivations r o.star.key c.algs;
    note = Some (note_of r o.way o.star);
    made = Some (record {
      station = s.id;
      air = air;
      conn = c.conn;
      cell = cell;
      key = o.star.key;
      number = o.star.number;
      algs = c.algs;
      from = ByAttempt (record { source = s.id; attempt = number });
    });
    tried = Some (record {
      station = s.id;
      attempt = number;
      target = s.id;
      conn = c.conn;
      cell = cell;
      key = c.key.kenb;
      number = c.key.number;
      kind = BySource o.star;
    });
  },
)

abbrev pub started_within : {K C : Type 0} →
    Reading K C → ℕ → ℕ → Place → Option (Context K C) → Station K C → Station K C × Reply K C
started_within r number air cell None s = (s, only Done)
started_within r number air cell (Some c) s = started_within_with r number air cell c (opened r c.key cell) s

-- once the order is sent, nothing is kept for it
abbrev pub commanded : {K C : Type 0} → Order → Attempt K C → Attempt K C
commanded order a = record a { keys = None; progress = Commanded order }

abbrev pub commands : {K C : Type 0} → Via → Order → ℕ → Option (Context K C) → Station K C → Station K C × Reply K C
commands via order count None s = (s, only Done)
commands via order count (Some c) s = (
  record s {
    context = Some (record c {
      bearers = srb_sent Signalling1 c.bearers;
      attempt = option_map (commanded order) c.attempt;
    });
  },
  record (only Done) { sent = Some (signalling_sent s.id c.air c.keys Signalling1 count (order_text via order)) },
)

-- the pair that an attempt used, while it is kept
abbrev pub spent_of : {K C : Type 0} → Option (SourceKeys K C) → Option (NumberedKey K C)
spent_of None = None
spent_of (Some keys) = keys.spent

abbrev pub spent_in : {K C : Type 0} → Option (Attempt K C) → Option (NumberedKey K C)
spent_in None = None
spent_in (Some a) = spent_of a.keys

-- this project's own rule: the pair goes back, unless another is stored by now
abbrev pub given_up : {K C : Type 0} → Context K C → Context K C
given_up c = record c { key = restored_if c.key (spent_in c.attempt); attempt = None }

-- Path Switch Request under a new number, whose answer alone is taken now
abbrev pub asks_again : {K C : Type 0} → ℕ → Option (Context K C) → Station K C → Station K C × Reply K C
asks_again number None s = (s, only Done)
asks_again number (Some c) s = (
  record s { next = number + 1; context = Some (record c { outstanding = Some number }) },
  record (only Done) { sent = Some (to_core (PathSwitchRequest c.conn s.id number c.cell c.caps)) },
)

abbrev pub sends_packet : {K C : Type 0} →
    Drb → ℕ → List ℕ → Option (Context K C) → Station K C → Station K C × Reply K C
sends_packet drb count text None s = (s, only Done)
sends_packet drb count text (Some c) s = (
  record s { context = Some (record c { bearers = drb_sent drb c.bearers }) },
  record (only Done) { sent = Some (packet_sent s.id c.air c.keys drb count text) },
)

abbrev pub sends_rrc : {K C : Type 0} →
    Srb → ℕ → List ℕ → Option (Context K C) → Station K C → Station K C × Reply K C
sends_rrc srb count text None s = (s, only Done)
sends_rrc srb count text (Some c) s = (
  record s { context = Some (record c { bearers = srb_sent srb c.bearers }) },
  record (only Done) { sent = Some (signalling_sent s.id c.air c.keys srb count (spelling_of (RrcData text))) },
)

abbrev pub with_skipped : {K C : Type 0} → Which → ℕ → Context K C → Context K C
with_skipped on n c = record c { bearers = skipped_on on n c.bearers }

abbrev pub act_does : {K C : Type 0} → Reading K C → ActRow → Station K C → Station K C × Reply K C
act_does r (ActRefused answer) s = (s, only answer)
act_does r (StartedByX2 number target cell) s = started_by_x2 r number target cell s.context s
act_does r (StartedByS1 number target cell) s = started_by_s1 number target cell s.context s
act_does r (StartedWithin number air cell) s = started_within r number air cell s.context s
act_does r (OrderSent via order count) s = commands via order count s.context s
act_does r (CancelledByX2 conn number target) s = (
  record s { context = option_map given_up s.context },
  record (only Done) { sent = Some (to_station target (X2Cancel conn s.id number)) },
)
act_does r (CancelledByS1 conn number cell) s = (
  record s { context = option_map given_up s.context },
  record (only Done) { sent = Some (to_core (HandoverCancel conn s.id number cell)) },
)
act_does r (CancelledWithin number) s =
    (record s { context = option_map given_up s.context; preps = without s.id number s.preps }, only Done)
act_does r (PathSwitchAsked number) s = asks_again number s.context s
act_does r (PacketSent drb count text) s = sends_packet drb count text s.context s
act_does r (RrcSent srb count text) s = sends_rrc srb count text s.context s
act_does r (BearerSkipped on n) s = (record s { context = option_map (with_skipped on n) s.context }, only Done)

-- the row, where the key of the record that was read is this
abbrev pub station_does : {K C : Type 0} →
    Reading K C → StationRow → Option (NumberedKey K C) → Station K C → Station K C × Reply K C
station_does r (OfRecord row) key s = record_does r row key s
station_does r (OfAir row) key s = air_does r row s
station_does r (OfAct row) key s = act_does r row s
