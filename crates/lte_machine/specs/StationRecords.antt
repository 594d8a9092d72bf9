-- What a station sends, and what it does on a record, with its keys: every key is a derivation of a key that it holds or that the
-- record gave it.
use Rattle.std.specs.Prelude.{ℕ, ◌+◌, true, List, [], ◌∷◌, ◌++◌, slice_set, Option, Some, None, option_map}
use Rattle.alg_choice.specs.{declared.algs.Algs.Algs, declared.caps.Caps.Caps}
use Rattle.annex_a_keys.specs.Cell.{Place}
use Rattle.rec_base.specs.{declared.uses.Dir.TheVariants.Down, declared.ways.Way.Way}
use Rattle.rec_base.specs.declared.ways.Way.TheVariants.{Vertical, Given}
use Rattle.lte_events.specs.declared.addresses.Address.TheVariants.{CoreS1, StationX2}
use Rattle.lte_events.specs.declared.answers.Answer.TheVariants.{Done}
use Rattle.key_model.specs.{Reading.Reading, HandoverTable.NumberedKey, HandoverLines.star_line, HandoverLines.change_line, Derivation.Derivation, Derivation.star_made}
use Rattle.nh_chain.specs.Station.{initial_key, given_key, stored}
use Rattle.pdcp_guard.specs.AsKeys.{AsKeys, as_keys_of, as_derivations}
use Rattle.rrc_rec.specs.{declared.records.RrcRecord.RrcRecord, Spelling.spelling_of}
use Rattle.rrc_rec.specs.declared.records.RrcRecord.TheVariants.{SecurityModeCommand, Reconfiguration, KeyChange}
use Rattle.s1x2_rec.specs.Fields.{Fields, HandoverRequestAck, X2Ack, X2Release}
use Rattle.ho_prep.specs.declared.origins.By.{By}
use Rattle.ho_prep.specs.Prep.{Prep, without, drop_below}
use Rattle.x2_handover.specs.declared.orders.Order.{Order}
use Rattle.lte_machine.specs.Bearers.{Srb, Signalling1, Drb, new_bearers, srb_sent}
use Rattle.lte_machine.specs.Wire.{Outgoing, SealedRrc, UserPacket, Between, srb_use, srb_ciphering, drb_ciphering}
use Rattle.lte_machine.specs.Reply.{Note, Origin, BySetup, ByAttempt, ByChange, Made, Reply, only}
use Rattle.lte_machine.specs.StationState.{Station, Context, Via, Renewing, Ready, Commanded, Attempt}
use Rattle.lte_machine.specs.StationRows.{Admitted, RecordRow, RecordRefused, ContextGiven, ContextReleased, PairTaken, PreparedByS1, PreparedByX2, AttemptAnswered, PreparationCancelled, SourceReleased, KeyRenewed}

-- SENDING (TS 36.323 5.6 and 5.7)

-- the Security Mode Command of a new context: COUNT 0 on SRB1, not ciphered (TS 36.331 5.3.4.2)
abbrev pub security_command : {K C : Type 0} → ℕ → ℕ → AsKeys K → Outgoing K C
security_command id air keys =
    SealedRrc Down id air Signalling1 (srb_use Down keys.rrc_int Signalling1 0) None
    (spelling_of (SecurityModeCommand keys.algs id air))

abbrev pub signalling_sent : {K C : Type 0} → ℕ → ℕ → AsKeys K → Srb → ℕ → List ℕ → Outgoing K C
signalling_sent id air keys srb count text =
    SealedRrc Down id air srb (srb_use Down keys.rrc_int srb count)
    (Some (srb_ciphering Down keys srb count)) text

abbrev pub packet_sent : {K C : Type 0} → ℕ → ℕ → AsKeys K → Drb → ℕ → List ℕ → Outgoing K C
packet_sent id air keys drb count text =
    UserPacket Down id air drb (drb_ciphering Down keys drb count) text

-- the order for the phone: the handover command, or that of a key change, which needs no NCC (TS 36.331 5.3.5.4, TS 33.401 7.2.9.2)
abbrev pub order_record : Via → Order → RrcRecord
order_record Renewing o = KeyChange o.cell o.algs o.station o.air
order_record other o = Reconfiguration o.cell o.ncc o.algs o.station o.air

abbrev pub order_text : Via → Order → List ℕ
order_text via o = spelling_of (order_record via o)

-- a record with no key, to the core or to a station
abbrev pub to_core : {K C : Type 0} → Fields → Outgoing K C
to_core fields = Between CoreS1 fields None

abbrev pub to_station : {K C : Type 0} → ℕ → Fields → Outgoing K C
to_station station fields = Between (StationX2 station) fields None

-- what is told of a key
abbrev pub note_of : {K C : Type 0} → Reading K C → Way → NumberedKey K C → Note K
note_of r way key = record { ncc = r.ncc key.number; way = way; key = key.key }

-- ROWS BY A RECORD

-- a context by Initial Context Setup: KeNB of the first number (TS 33.401 7.2.8.1.1), its AS keys (A.7)
abbrev pub initial_context : {K C : Type 0} → Reading K C → ℕ → Place → Caps → Algs → ℕ → K → Context K C
initial_context r conn cell caps algs air kenb = record {
  conn = conn;
  cell = cell;
  air = air;
  key = initial_key r kenb;
  algs = algs;
  keys = as_keys_of r kenb algs;
  caps = caps;
  starting = true;
  bearers = srb_sent Signalling1 new_bearers;
  attempt = None;
  outstanding = None;
  origin = None;
}

abbrev pub context_given : {K C : Type 0} →
    Reading K C → ℕ → Place → Caps → Algs → ℕ → Option (NumberedKey K C) → Station K C → Station K C × Reply K C
context_given r conn cell caps algs air None s = (s, only Done)
context_given r conn cell caps algs air (Some received) s =
    let kenb = received.key in (
      record s { next = air + 1; last = conn; context = Some (initial_context r conn cell caps algs air kenb); preps = [] },
      record (only Done) {
        sent = Some (security_command s.id air (as_keys_of r kenb algs));
        derived = as_derivations r kenb algs;
        note = Some (note_of r Given (record { key = kenb; number = r.first }));
        made = Some (record {
          station = s.id;
          air = air;
          conn = conn;
          cell = cell;
          key = kenb;
          number = r.first;
          algs = algs;
          from = BySetup;
        });
      },
    )

-- the pair of a path switch answer replaces any other, and no answer is outstanding (TS 33.401 7.2.8.4.2)
abbrev pub with_pair : {K C : Type 0} → NumberedKey K C → Context K C → Context K C
with_pair pair c = record c { key = stored c.key pair; outstanding = None }

-- this project's own rule: with the answer the X2 source is told to release its context (TS 36.423 8.2.3)
abbrev pub source_release : {K C : Type 0} → ℕ → Option Origin → Option (Outgoing K C)
source_release conn None = None
source_release conn (Some o) = Some (to_station o.source (X2Release conn o.attempt))

abbrev pub pair_taken : {K C : Type 0} →
    ℕ → Option Origin → Option (NumberedKey K C) → Station K C → Station K C × Reply K C
pair_taken conn origin None s = (s, only Done)
pair_taken conn origin (Some pair) s =
    (record s { context = option_map (with_pair pair) s.context }, record (only Done) { sent = source_release conn origin })

-- a preparation with a KeNB* and its AS keys (TS 33.401 7.2.8.4.2, 7.2.8.4.3, A.7)
abbrev pub admitted_prep : {K C : Type 0} → Reading K C → Admitted → By → NumberedKey K C → Prep K C
admitted_prep r w by star = record {
  conn = w.conn;
  source = w.from.source;
  attempt = w.from.attempt;
  by = by;
  cell = w.cell;
  air = w.air;
  key = given_key star;
  algs = w.algs;
  keys = as_keys_of r star.key w.algs;
  caps = w.caps;
}

-- with it preparations of older connections are dropped
abbrev pub with_admitted : {K C : Type 0} → Admitted → Prep K C → Station K C → Station K C
with_admitted w prep s = record s {
  next = w.air + 1;
  last = w.conn;
  seen = slice_set s.seen w.from.source w.from.attempt;
  preps = drop_below w.conn s.preps ++ prep ∷ [];
}

abbrev pub admitted_made : {K C : Type 0} → ℕ → Admitted → NumberedKey K C → Made K C
admitted_made id w star = record {
  station = id;
  air = w.air;
  conn = w.conn;
  cell = w.cell;
  key = star.key;
  number = star.number;
  algs = w.algs;
  from = ByAttempt w.from;
}

-- on S1 the target derives KeNB* of the NH received: vertical (TS 33.401 7.2.8.4.3)
abbrev pub prepared_by_s1_with : {K C : Type 0} →
    Reading K C → Admitted → Derivation K → NumberedKey K C → Station K C → Station K C × Reply K C
prepared_by_s1_with r w made star s = (
  with_admitted w (admitted_prep r w By.S1 star) s,
  record (only Done) {
    sent = Some (to_core (HandoverRequestAck w.conn w.from.source w.from.attempt w.cell (r.ncc star.number) w.algs w.air));
    derived = made ∷ as_derivations r star.key w.algs;
    note = Some (note_of r Vertical star);
    made = Some (admitted_made s.id w star);
  },
)

abbrev pub prepared_by_s1 : {K C : Type 0} →
    Reading K C → Admitted → Option (NumberedKey K C) → Station K C → Station K C × Reply K C
prepared_by_s1 r w None s = (s, only Done)
prepared_by_s1 r w (Some pair) s =
    prepared_by_s1_with r w (star_made r pair.key w.cell.pci w.cell.earfcn) (star_line r pair w.cell.pci w.cell.earfcn) s

-- on X2 the target takes the KeNB* received (TS 33.401 7.2.8.4.2)
abbrev pub prepared_by_x2 : {K C : Type 0} →
    Reading K C → Admitted → Option (NumberedKey K C) → Station K C → Station K C × Reply K C
prepared_by_x2 r w None s = (s, only Done)
prepared_by_x2 r w (Some star) s = (
  with_admitted w (admitted_prep r w By.X2 star) s,
  record (only Done) {
    sent = Some (to_station w.from.source (X2Ack w.conn w.from.attempt w.cell w.algs w.air));
    derived = as_derivations r star.key w.algs;
    note = Some (note_of r Given star);
    made = Some (admitted_made s.id w star);
  },
)

-- the target answered: the order is known
abbrev pub answered : {K C : Type 0} → Order → Attempt K C → Attempt K C
answered order a = record a { progress = Ready order }

abbrev pub with_answer : {K C : Type 0} → Order → Context K C → Context K C
with_answer order c = record c { attempt = option_map (answered order) c.attempt }

-- a preparation within the station, for a phone that comes at an air address with a key; cell, algorithms and capabilities
-- are given, and so is the X2 handover that the context came by
abbrev pub own_prep : {K C : Type 0} →
    Reading K C → ℕ → ℕ → ℕ → ℕ → Place → Context K C → NumberedKey K C → Prep K C
own_prep r conn id number air cell c star = record {
  conn = conn;
  source = id;
  attempt = number;
  by = By.Intra (option_map (λ o. (o.source, o.attempt)) c.origin);
  cell = cell;
  air = air;
  key = given_key star;
  algs = c.algs;
  keys = as_keys_of r star.key c.algs;
  caps = c.caps;
}

-- the order of a change of the context's key, and the attempt whose order was sent at once
abbrev pub change_order : {K C : Type 0} → ℕ → ℕ → ℕ → Context K C → Order
change_order ncc id air c = record { cell = c.cell; ncc = ncc; algs = c.algs; station = id; air = air }

abbrev pub renewing : {K C : Type 0} → ℕ → Order → Attempt K C
renewing number order = record {
  number = number;
  station = order.station;
  cell = order.cell;
  via = Renewing;
  keys = None;
  progress = Commanded order;
}

-- the key of the context is to change: KeNB* of the new KeNB for the same cell, a preparation for it in place of all others,
-- and the order to the phone under the present keys (TS 33.401 7.2.9.2 and A.5)
abbrev pub key_renewed_with : {K C : Type 0} →
    Reading K C → ℕ → ℕ → ℕ → ℕ → Context K C → Derivation K → NumberedKey K C → Station K C → Station K C × Reply K C
key_renewed_with r conn number air count c made star s =
    let order = change_order (r.ncc star.number) s.id air c in (
      record s {
        next = air + 1;
        last = conn;
        context = Some (record c {
          bearers = srb_sent Signalling1 c.bearers;
          attempt = Some (renewing number order);
        });
        preps = own_prep r conn s.id number air c.cell c star ∷ [];
      },
      record (only Done) {
        sent = Some (signalling_sent s.id c.air c.keys Signalling1 count (order_text Renewing order));
        derived = made ∷ as_derivations r star.key c.algs;
        note = Some (note_of r Given star);
        made = Some (record {
          station = s.id;
          air = air;
          conn = conn;
          cell = c.cell;
          key = star.key;
          number = star.number;
          algs = c.algs;
          from = ByChange c.key.kenb;
        });
      },
    )

abbrev pub key_renewed : {K C : Type 0} →
    Reading K C → ℕ → ℕ → ℕ → ℕ → Option (Context K C) → Option (NumberedKey K C) → Station K C → Station K C × Reply K C
key_renewed r conn number air count (Some c) (Some kenb) s =
    key_renewed_with r conn number air count c (star_made r kenb.key c.cell.pci c.cell.earfcn)
    (change_line r kenb.key c.cell.pci c.cell.earfcn) s
key_renewed r conn number air count context key s = (s, only Done)

abbrev pub record_does : {K C : Type 0} →
    Reading K C → RecordRow → Option (NumberedKey K C) → Station K C → Station K C × Reply K C
record_does r (RecordRefused answer) key s = (s, only answer)
record_does r (ContextGiven conn cell caps algs air) key s = context_given r conn cell caps algs air key s
record_does r ContextReleased key s = (record s { context = None; preps = [] }, only Done)
record_does r (PairTaken conn origin) key s = pair_taken conn origin key s
record_does r (PreparedByS1 w) key s = prepared_by_s1 r w key s
record_does r (PreparedByX2 w) key s = prepared_by_x2 r w key s
record_does r (AttemptAnswered order) key s = (record s { context = option_map (with_answer order) s.context }, only Done)
record_does r (PreparationCancelled from) key s =
    (record s { preps = without from.source from.attempt s.preps }, only Done)
record_does r SourceReleased key s = (record s { context = None }, only Done)
record_does r (KeyRenewed conn number air count) key s = key_renewed r conn number air count s.context key s
