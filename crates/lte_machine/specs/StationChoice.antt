-- The choice of a station's row: refusals in their order, the first that applies. It sees no key, and of a chain number
-- its NCC. Where a PDU is to be opened, the choice stops, and goes on with the outcome.
use Rattle.std.specs.Prelude.{ℕ, ◌+◌, ◌==◌, nat_le, nat_lt, Bool, true, false, not, ◌&&◌, if◌then◌else◌, List, length, take, slice_index, Option, Some, None, option_map, Result, Ok, Err}
use Rattle.alg_choice.specs.{declared.algs.Algs.Algs, declared.caps.Caps.Caps, declared.choices.NoAlgorithm.NoAlgorithm as Unmatched, Choice.choice_of}
use Rattle.annex_a_keys.specs.Cell.{Place}
use Rattle.rec_base.specs.{declared.faults.RecFault.RecFault, Lengths.longest_packet}
use Rattle.lte_events.specs.declared.answers.Answer.TheVariants.{Done, MacFails, CountSpent, NoAlgorithm, BadRecord, WrongKind, NotAddressed, NoUe, Stale, OldConnection, NotActive, UnknownCell, NoPathSwitch, AttemptOpen, NoAttempt, CommandSent, Repeated, PrepFull, NotReady, NumberSpent}
use Rattle.lte_events.specs.{declared.acts.StationAct.StationAct, declared.acts.HoKind.HoKind, Site.station_of}
use Rattle.lte_events.specs.declared.acts.StationAct.TheVariants.{Start, Command, Cancel, Ask, SendUser, SendRrc, Skip}
use Rattle.pdcp_guard.specs.{declared.pdus.PdcpFault.PdcpFault, Counts.Counts, Srb.srb_count, Drb.drb_count}
use Rattle.rrc_rec.specs.{declared.records.RrcRecord.RrcRecord, Reading.read_rrc, Spelling.kind_of as rrc_kind}
use Rattle.rrc_rec.specs.declared.records.RrcRecord.TheVariants.{SecurityModeComplete, ReconfigurationComplete, RrcData}
use Rattle.s1x2_rec.specs.Fields.{Fields, kind_of, InitialContext, ContextRelease, PathSwitchAnswer, HandoverRequest, HandoverCommand, HandoverCancel, X2Request, X2Ack, X2Cancel, X2Release, ContextModification}
use Rattle.s1x2_rec.specs.Content.{Content}
use Rattle.ho_prep.specs.declared.origins.By.{By}
use Rattle.ho_prep.specs.Prep.{Prep, at_air, has_attempt, most_preparations}
use Rattle.x2_handover.specs.declared.orders.Order.{Order}
use Rattle.lte_machine.specs.Bearers.{Srb, Signalling1, Drb, Which, OnSrb, OnDrb, which, Bearers, srb_counts, drb_counts, is_spent}
use Rattle.lte_machine.specs.Opening.{Outcome, Opened, Differs}
use Rattle.lte_machine.specs.{Refusals.of_pdcp, Reply.Origin}
use Rattle.lte_machine.specs.StationState.{Station, Context, Via, OverX2, OverS1, Within, Renewing, Progress, Open, Ready, Commanded, SourceKeys, Attempt, Interface, OnS1, OnX2, StationInput, StationActs, AirPdu, StationRecord}
use Rattle.lte_machine.specs.StationRows.{Admitted, RecordRow, RecordRefused, ContextGiven, ContextReleased, PairTaken, PreparedByS1, PreparedByX2, AttemptAnswered, PreparationCancelled, SourceReleased, KeyRenewed, AirRow, AirRefused, SecurityStarted, RrcOpened, PacketOpened, CompletedByS1, CompletedWithin, CompletedByX2, ActRow, ActRefused, StartedByX2, StartedByS1, StartedWithin, OrderSent, CancelledByX2, CancelledByS1, CancelledWithin, PathSwitchAsked, PacketSent, RrcSent, BearerSkipped, StationRow, OfRecord, OfAir, OfAct}

-- a station without its keys
abbrev pub PlainStation : Type 0
PlainStation = Station (Unit {0}) ℕ

abbrev pub PlainContext : Type 0
PlainContext = Context (Unit {0}) ℕ

abbrev pub PlainAttempt : Type 0
PlainAttempt = Attempt (Unit {0}) ℕ

-- air addresses, attempts and numbers of path switch requests are 32 bits, drawn in turn from one counter (this project's
-- own rule: it never goes back): whether fewer are left than are to be drawn
abbrev pub runs_out : ℕ → ℕ → Bool
runs_out draws next = nat_lt 4294967296 (next + draws)

abbrev pub is_station : ℕ → Option ℕ → Bool
is_station id None = false
is_station id (Some station) = station == id

-- the cell is one of the station's own
abbrev pub is_own : PlainStation → Place → Bool
is_own s cell = is_station s.id (station_of cell s.cells)

-- the order for the phone of an attempt whose target answered: NCC, algorithms chosen, air address drawn (TS 36.331 5.3.5.4)
abbrev pub order_of : {K C : Type 0} → Attempt K C → ℕ → Algs → ℕ → Order
order_of a ncc algs air = record { cell = a.cell; ncc = ncc; algs = algs; station = a.station; air = air }

abbrev pub is_over_x2 : Via → Bool
is_over_x2 OverX2 = true
is_over_x2 other = false

abbrev pub is_over_s1 : Via → Bool
is_over_s1 OverS1 = true
is_over_s1 other = false

-- RECORDS

-- the algorithms are chosen, and an air address is drawn (TS 33.401 7.2.4.2.1)
abbrev pub initial_choice : PlainStation → ℕ → Place → Caps → Result Algs Unmatched → RecordRow
initial_choice s conn cell caps (Err none) = RecordRefused NoAlgorithm
initial_choice s conn cell caps (Ok algs) =
    if runs_out 1 s.next then RecordRefused NumberSpent else ContextGiven conn cell caps algs s.next

-- Initial Context Setup Request (TS 36.413 8.3.1). This project's own rule: connections are numbered, and one that is not
-- above the last is old
abbrev pub initial_row : PlainStation → ℕ → Place → Caps → RecordRow
initial_row s conn cell caps =
    if nat_le conn s.last then RecordRefused (OldConnection s.last conn)
    else (if is_own s cell then initial_choice s conn cell caps (choice_of s.priority caps)
    else RecordRefused UnknownCell)

-- UE Context Release Command (TS 36.413 8.3.3)
abbrev pub release_row : ℕ → Option PlainContext → RecordRow
release_row conn None = RecordRefused NoUe
release_row conn (Some c) = if c.conn == conn then ContextReleased else RecordRefused (OldConnection c.conn conn)

-- Path Switch Request Acknowledge (TS 36.413 8.4.4). This project's own rule: only the answer to the newest request of
-- the context is taken, once
abbrev pub answer_row_by : ℕ → Option ℕ → RecordRow → RecordRow
answer_row_by number None row = RecordRefused (Stale 0 number)
answer_row_by number (Some outstanding) row =
    if outstanding == number then row else RecordRefused (Stale outstanding number)

abbrev pub answer_row : ℕ → Option PlainContext → RecordRow
answer_row number None = RecordRefused NoUe
answer_row number (Some c) = answer_row_by number c.outstanding (PairTaken c.conn c.origin)

-- the algorithms are chosen, and an air address is drawn (TS 33.401 7.2.4.2.2 and 7.2.4.2.3); the row is that of the
-- interface
abbrev pub admitted_choice : PlainStation → ℕ → Origin → Place → Caps → (Admitted → RecordRow) → Result Algs Unmatched → RecordRow
admitted_choice s conn from cell caps row (Err none) = RecordRefused NoAlgorithm
admitted_choice s conn from cell caps row (Ok algs) =
    if runs_out 1 s.next then RecordRefused NumberSpent
    else row (record { conn = conn; from = from; cell = cell; caps = caps; algs = algs; air = s.next })

-- as many preparations stand as may
abbrev pub is_full : PlainStation → Bool
is_full s = nat_le most_preparations (length s.preps)

-- the greatest attempt seen of a source
abbrev pub greatest : PlainStation → ℕ → ℕ
greatest s source = slice_index s.seen source

-- Handover Request on S1 or X2 (TS 36.413 8.4.2, TS 36.423 8.2.1). This project's own rules: the connection is not below
-- the last, the attempt is above the greatest seen of its source, and at most eight preparations stand
abbrev pub admitted_row : PlainStation → ℕ → Origin → Place → Caps → (Admitted → RecordRow) → RecordRow
admitted_row s conn from cell caps row =
    if nat_lt conn s.last then RecordRefused (OldConnection s.last conn)
    else (if not (is_own s cell) then RecordRefused UnknownCell
    else (if nat_le from.attempt (greatest s from.source) then RecordRefused (Repeated (greatest s from.source) from.attempt)
    else (if (conn == s.last) && is_full s then RecordRefused PrepFull
    else admitted_choice s conn from cell caps row (choice_of s.priority caps))))

-- an answer to an attempt is taken while it is open
abbrev pub answered_row : ℕ → Order → Progress → RecordRow
answered_row number order Open = AttemptAnswered order
answered_row number order other = RecordRefused (Repeated number number)

-- Handover Command (TS 36.413 8.4.1)
abbrev pub s1_acked_row : ℕ → ℕ → Algs → ℕ → Option PlainAttempt → RecordRow
s1_acked_row number ncc algs air None = RecordRefused NoAttempt
s1_acked_row number ncc algs air (Some a) =
    if is_over_s1 a.via && (a.number == number) then answered_row number (order_of a ncc algs air) a.progress
    else RecordRefused NoAttempt

abbrev pub s1_ack_row : ℕ → ℕ → Algs → ℕ → Option PlainContext → RecordRow
s1_ack_row number ncc algs air None = RecordRefused NoUe
s1_ack_row number ncc algs air (Some c) = s1_acked_row number ncc algs air c.attempt

-- the NCC of KeNB*
abbrev pub star_ncc : Option (SourceKeys (Unit {0}) ℕ) → ℕ
star_ncc None = 0
star_ncc (Some keys) = keys.star.number

-- Handover Request Acknowledge on X2 (TS 36.423 8.2.1)
abbrev pub x2_acked_row : ℕ → Algs → ℕ → Option PlainAttempt → RecordRow
x2_acked_row number algs air None = RecordRefused NoAttempt
x2_acked_row number algs air (Some a) =
    if is_over_x2 a.via && (a.number == number) then answered_row number (order_of a (star_ncc a.keys) algs air) a.progress
    else RecordRefused NoAttempt

abbrev pub x2_ack_row : ℕ → Algs → ℕ → Option PlainContext → RecordRow
x2_ack_row number algs air None = RecordRefused NoUe
x2_ack_row number algs air (Some c) = x2_acked_row number algs air c.attempt

-- Handover Cancel (TS 36.423 8.2.4). This project's own rule: on S1 the core passes it on, with this name, and the target
-- is released by it (in TS 36.413 8.4.5 by a UE Context Release)
abbrev pub cancel_row : PlainStation → Origin → RecordRow
cancel_row s from =
    if has_attempt from.source from.attempt s.preps then PreparationCancelled from else RecordRefused NoAttempt

-- UE Context Release on X2 (TS 36.423 8.2.3). This project's own rule: only after the command was sent
abbrev pub released_row : Progress → RecordRow
released_row (Commanded order) = SourceReleased
released_row other = RecordRefused NoAttempt

abbrev pub x2_released_row : ℕ → Option PlainAttempt → RecordRow
x2_released_row number None = RecordRefused NoAttempt
x2_released_row number (Some a) =
    if is_over_x2 a.via && (a.number == number) then released_row a.progress else RecordRefused NoAttempt

abbrev pub x2_release_row : ℕ → Option PlainContext → RecordRow
x2_release_row number None = RecordRefused NoUe
x2_release_row number (Some c) = x2_released_row number c.attempt

-- two numbers are drawn for a key change, the attempt and then the air address, and its order needs a COUNT
abbrev pub renewed_row : ℕ → ℕ → Counts → RecordRow
renewed_row next_conn next counts =
    if runs_out 2 next then RecordRefused NumberSpent
    else (if is_spent counts then RecordRefused CountSpent else KeyRenewed next_conn next (next + 1) counts.send)

abbrev pub renewed_alone : ℕ → ℕ → Counts → Option PlainAttempt → RecordRow
renewed_alone next_conn next counts (Some attempt) = RecordRefused (AttemptOpen attempt.number)
renewed_alone next_conn next counts None = renewed_row next_conn next counts

-- UE Context Modification Request (TS 36.413 8.3.4). This project's own rules: it is of the context's connection, which gets
-- a new number above the last, and it waits for no attempt
abbrev pub modification_row : PlainStation → ℕ → ℕ → Option PlainContext → RecordRow
modification_row s conn next_conn None = RecordRefused NoUe
modification_row s conn next_conn (Some c) =
    if not (c.conn == conn) then RecordRefused (OldConnection c.conn conn)
    else (if nat_le next_conn s.last then RecordRefused (OldConnection s.last next_conn)
    else (if c.starting then RecordRefused NotActive
    else renewed_alone next_conn s.next c.bearers.srb1 c.attempt))

-- by the kinds that a station takes on S1, and on X2
abbrev pub s1_row : PlainStation → Fields → RecordRow
s1_row s (InitialContext conn cell caps) = initial_row s conn cell caps
s1_row s (ContextRelease conn) = release_row conn s.context
s1_row s (PathSwitchAnswer conn number) = answer_row number s.context
s1_row s (HandoverRequest conn source attempt cell caps) =
    admitted_row s conn (record { source = source; attempt = attempt }) cell caps PreparedByS1
s1_row s (HandoverCommand conn attempt cell ncc algs air) = s1_ack_row attempt ncc algs air s.context
s1_row s (HandoverCancel conn source attempt cell) = cancel_row s (record { source = source; attempt = attempt })
s1_row s (ContextModification conn next_conn) = modification_row s conn next_conn s.context
s1_row s other = RecordRefused (WrongKind (kind_of other))

abbrev pub x2_row : PlainStation → Fields → RecordRow
x2_row s (X2Request conn source attempt cell caps) =
    admitted_row s conn (record { source = source; attempt = attempt }) cell caps PreparedByX2
x2_row s (X2Ack conn attempt cell algs air) = x2_ack_row attempt algs air s.context
x2_row s (X2Cancel conn source attempt) = cancel_row s (record { source = source; attempt = attempt })
x2_row s (X2Release conn attempt) = x2_release_row attempt s.context
x2_row s other = RecordRefused (WrongKind (kind_of other))

abbrev pub record_row : PlainStation → Interface → Result (Content (Unit {0}) ℕ) RecFault → RecordRow
record_row s interface (Err fault) = RecordRefused (BadRecord fault)
record_row s OnS1 (Ok content) = s1_row s content.fields
record_row s OnX2 (Ok content) = x2_row s content.fields

-- PDUS OF RADIO BEARERS

-- what is to be opened, and at which COUNT, or the answer at once
pub data AirFront : Type 0 where
  AirSettled : AirRow → AirFront
  -- SRB1 of a context whose security starts: not ciphered yet (TS 36.331 5.3.4)
  OnStarting : ℕ → AirFront
  -- a bearer of an active context
  OnSignalling : Srb → ℕ → AirFront
  OnUser : Drb → ℕ → AirFront
  -- SRB1 at the air address of a preparation, which came so
  OnPrepared : ℕ → By → ℕ → AirFront

-- an opening needs a COUNT (TS 36.323 5.1.2)
abbrev pub counted : (ℕ → AirFront) → Result ℕ PdcpFault → AirFront
counted front (Err fault) = AirSettled (AirRefused (of_pdcp fault))
counted front (Ok count) = front count

abbrev pub starting_front : Bearers → Which → List ℕ → AirFront
starting_front bearers (OnSrb Signalling1) pdu = counted OnStarting (srb_count bearers.srb1.receive pdu)
starting_front bearers other pdu = AirSettled (AirRefused NotActive)

abbrev pub active_front : Bearers → Which → List ℕ → AirFront
active_front bearers (OnSrb srb) pdu = counted (OnSignalling srb) (srb_count (srb_counts srb bearers).receive pdu)
active_front bearers (OnDrb drb) pdu = counted (OnUser drb) (drb_count (drb_counts drb bearers).receive pdu)

abbrev pub context_front : Bool → Bearers → Which → List ℕ → AirFront
context_front true bearers on pdu = starting_front bearers on pdu
context_front false bearers on pdu = active_front bearers on pdu

-- a preparation expects COUNT 0 on SRB1, and nothing else (TS 36.331 5.3.5.4)
abbrev pub prepared_front : Option (Prep (Unit {0}) ℕ) → ℕ → Which → List ℕ → AirFront
prepared_front None air on pdu = AirSettled (AirRefused NotAddressed)
prepared_front (Some p) air (OnSrb Signalling1) pdu = counted (OnPrepared air p.by) (srb_count 0 pdu)
prepared_front (Some p) air other pdu = AirSettled (AirRefused NotActive)

abbrev pub air_front_by : Option PlainContext → Option (Prep (Unit {0}) ℕ) → ℕ → Which → List ℕ → AirFront
air_front_by None prep air on pdu = prepared_front prep air on pdu
air_front_by (Some c) prep air on pdu =
    if c.air == air then context_front c.starting c.bearers on pdu else prepared_front prep air on pdu

abbrev pub air_front : PlainStation → ℕ → Which → List ℕ → AirFront
air_front s air on pdu = air_front_by s.context (at_air air s.preps) air on pdu

-- Security Mode Complete (TS 36.331 5.3.4.3)
abbrev pub starting_row : ℕ → Result RrcRecord RecFault → AirRow
starting_row count (Err fault) = AirRefused (BadRecord fault)
starting_row count (Ok SecurityModeComplete) = SecurityStarted count
starting_row count (Ok other) = AirRefused (WrongKind (rrc_kind other))

-- data, or a Reconfiguration Complete that the phone sent again
abbrev pub rrc_row : Srb → ℕ → Result RrcRecord RecFault → AirRow
rrc_row srb count (Err fault) = AirRefused (BadRecord fault)
rrc_row srb count (Ok (RrcData text)) = RrcOpened srb count (Some text)
rrc_row srb count (Ok ReconfigurationComplete) = RrcOpened srb count None
rrc_row srb count (Ok other) = AirRefused (WrongKind (rrc_kind other))

-- Reconfiguration Complete (TS 36.331 5.3.5.4): with it the target has the phone. After X2 a Path Switch Request is due,
-- for which a number is drawn (TS 36.300 10.1.2.1.1)
abbrev pub completed_row : ℕ → ℕ → ℕ → By → AirRow
completed_row next air count By.X2 =
    if runs_out 1 next then AirRefused NumberSpent else CompletedByX2 air count next
completed_row next air count By.S1 = CompletedByS1 air count
completed_row next air count (By.Intra origin) =
    CompletedWithin air count (option_map (λ o. record { source = o.0; attempt = o.1 }) origin)

abbrev pub prepared_row : ℕ → ℕ → ℕ → By → Result RrcRecord RecFault → AirRow
prepared_row next air count by (Err fault) = AirRefused (BadRecord fault)
prepared_row next air count by (Ok ReconfigurationComplete) = completed_row next air count by
prepared_row next air count by (Ok other) = AirRefused NotActive

-- the text of a user packet, 1,500 octets at most (this project's own rule: what is longer is cut)
abbrev pub user_text : List ℕ → List ℕ
user_text text = take longest_packet text

-- after the opening
abbrev pub air_row : PlainStation → AirFront → Outcome → AirRow
air_row s (AirSettled row) outcome = row
air_row s (OnStarting count) (Differs wanted got) = AirRefused (MacFails count wanted got)
air_row s (OnStarting count) (Opened text) = starting_row count (read_rrc text)
air_row s (OnSignalling srb count) (Differs wanted got) = AirRefused (MacFails count wanted got)
air_row s (OnSignalling srb count) (Opened text) = rrc_row srb count (read_rrc text)
air_row s (OnUser drb count) (Differs wanted got) = AirRefused (MacFails count wanted got)
air_row s (OnUser drb count) (Opened text) = PacketOpened drb count (user_text text)
air_row s (OnPrepared air by count) (Differs wanted got) = AirRefused (MacFails count wanted got)
air_row s (OnPrepared air by count) (Opened text) = prepared_row s.next air count by (read_rrc text)

-- ACTS

-- an act that needs the active context
abbrev pub active_row : Bool → ActRow → ActRow
active_row true row = ActRefused NotActive
active_row false row = row

-- sending needs a COUNT (TS 36.323 5.1.1)
abbrev pub unless_spent : Counts → ActRow → ActRow
unless_spent counts row = if is_spent counts then ActRefused CountSpent else row

-- where a handover may not go: X2 and S1 to a cell of the station itself, and one within it to any other (TS 36.300
-- 10.1.2.1, TS 33.401 7.2.8.4.1)
abbrev pub is_misplaced : HoKind → Bool → Bool
is_misplaced HoKind.Intra own = not own
is_misplaced other own = own

-- one number is drawn for the attempt, and within the station one more for the air address
abbrev pub begun_row : PlainStation → ℕ → Place → HoKind → ActRow
begun_row s target cell HoKind.X2 =
    if runs_out 1 s.next then ActRefused NumberSpent else StartedByX2 s.next target cell
begun_row s target cell HoKind.S1 =
    if runs_out 1 s.next then ActRefused NumberSpent else StartedByS1 s.next target cell
begun_row s target cell HoKind.Intra =
    if is_full s then ActRefused PrepFull
    else (if runs_out 2 s.next then ActRefused NumberSpent else StartedWithin s.next (s.next + 1) cell)

-- this project's own rule: a context has at most one attempt
abbrev pub alone_row : PlainStation → ℕ → Place → HoKind → Option PlainAttempt → ActRow
alone_row s target cell kind (Some attempt) = ActRefused (AttemptOpen attempt.number)
alone_row s target cell kind None = begun_row s target cell kind

abbrev pub target_row : PlainStation → Option PlainAttempt → Place → HoKind → Option ℕ → ActRow
target_row s attempt cell kind None = ActRefused UnknownCell
target_row s attempt cell kind (Some target) =
    if is_misplaced kind (target == s.id) then ActRefused UnknownCell else alone_row s target cell kind attempt

abbrev pub start_row : PlainStation → HoKind → Place → Option PlainContext → ActRow
start_row s kind cell None = ActRefused NoUe
start_row s kind cell (Some c) =
    active_row c.starting (target_row s c.attempt cell kind (station_of cell s.cells))

-- the command (TS 36.331 5.3.5.4). This project's own rule: it may be sent again
abbrev pub ordered_row : Via → Progress → Counts → ActRow
ordered_row via Open counts = ActRefused NotReady
ordered_row via (Ready order) counts = unless_spent counts (OrderSent via order counts.send)
ordered_row via (Commanded order) counts = unless_spent counts (OrderSent via order counts.send)

abbrev pub attempt_command_row : Option PlainAttempt → Counts → ActRow
attempt_command_row None counts = ActRefused NoAttempt
attempt_command_row (Some a) counts = ordered_row a.via a.progress counts

abbrev pub command_row : Option PlainContext → ActRow
command_row None = ActRefused NoUe
command_row (Some c) = attempt_command_row c.attempt c.bearers.srb1

-- giving an attempt up (TS 36.413 8.4.5, TS 36.423 8.2.4). This project's own rule: until its command was sent
abbrev pub unless_commanded : Progress → ActRow → ActRow
unless_commanded (Commanded order) row = ActRefused CommandSent
unless_commanded other row = row

abbrev pub cancelled_row : ℕ → PlainAttempt → Via → ActRow
cancelled_row conn a OverX2 = CancelledByX2 conn a.number a.station
cancelled_row conn a OverS1 = CancelledByS1 conn a.number a.cell
cancelled_row conn a Within = CancelledWithin a.number
cancelled_row conn a Renewing = ActRefused CommandSent

abbrev pub attempt_cancel_row : ℕ → Option PlainAttempt → ActRow
attempt_cancel_row conn None = ActRefused NoAttempt
attempt_cancel_row conn (Some a) = unless_commanded a.progress (cancelled_row conn a a.via)

abbrev pub give_up_row : Option PlainContext → ActRow
give_up_row None = ActRefused NoUe
give_up_row (Some c) = attempt_cancel_row c.conn c.attempt

-- Path Switch Request again (TS 36.413 8.4.4). This project's own rule: only for a context that came by X2
abbrev pub came_row : ℕ → Option Origin → ActRow
came_row next None = ActRefused NoPathSwitch
came_row next (Some origin) = if runs_out 1 next then ActRefused NumberSpent else PathSwitchAsked next

abbrev pub ask_row : ℕ → Option PlainContext → ActRow
ask_row next None = ActRefused NoUe
ask_row next (Some c) = active_row c.starting (came_row next c.origin)

-- a user packet on a DRB; that it names an SRB no caller asks for, and nothing is done
abbrev pub packet_row : Which → List ℕ → Option PlainContext → ActRow
packet_row (OnSrb srb) text context = ActRefused Done
packet_row (OnDrb drb) text None = ActRefused NoUe
packet_row (OnDrb drb) text (Some c) =
    let counts = drb_counts drb c.bearers in
    active_row c.starting (unless_spent counts (PacketSent drb counts.send text))

-- an RRC text on an SRB; that it names a DRB no caller asks for, and nothing is done
abbrev pub send_rrc_row : Which → List ℕ → Option PlainContext → ActRow
send_rrc_row (OnDrb drb) text context = ActRefused Done
send_rrc_row (OnSrb srb) text None = ActRefused NoUe
send_rrc_row (OnSrb srb) text (Some c) =
    let counts = srb_counts srb c.bearers in
    active_row c.starting (unless_spent counts (RrcSent srb counts.send text))

-- leaving COUNTs of a bearer out
abbrev pub skip_row : Which → ℕ → Option PlainContext → ActRow
skip_row on n None = ActRefused NoUe
skip_row on n (Some c) = active_row c.starting (BearerSkipped on n)

abbrev pub act_row : PlainStation → StationAct → ActRow
act_row s (Start kind cell) = start_row s kind cell s.context
act_row s Command = command_row s.context
act_row s Cancel = give_up_row s.context
act_row s Ask = ask_row s.next s.context
act_row s (SendUser bearer text) = packet_row (which bearer) text s.context
act_row s (SendRrc bearer text) = send_rrc_row (which bearer) text s.context
act_row s (Skip bearer n) = skip_row (which bearer) n s.context

-- THE WHOLE CHOICE

-- the row is settled, or a PDU of a bearer may be to be opened first
pub data StationFront : Type 0 where
  Settled : StationRow → StationFront
  FromAir : AirFront → StationFront

-- what comes before the opening
abbrev pub station_front : PlainStation → StationInput (Unit {0}) ℕ → StationFront
station_front s (StationActs act) = Settled (OfAct (act_row s act))
station_front s (AirPdu air bearer pdu) = FromAir (air_front s air (which bearer) pdu)
station_front s (StationRecord interface read) = Settled (OfRecord (record_row s interface read))

-- and what comes after it
abbrev pub station_row : PlainStation → StationFront → Outcome → StationRow
station_row s (Settled row) outcome = row
station_row s (FromAir front) outcome = OfAir (air_row s front outcome)
