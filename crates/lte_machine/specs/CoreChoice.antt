-- The choice of the core's row: what it refuses, in the order of its table, and what it does. The state and the input
-- are seen without keys and chain numbers, so that the choice is one in each reading of them.
use Rattle.std.specs.Prelude.{ℕ, ◌/◌, ◌%◌, Bool, not, ◌==◌, ◌&&◌, ◌||◌, nat_lt, nat_le, if◌then◌else◌, List, drop, length, slice_index, Option, Some, None, Result, Ok, Err}
use Rattle.alg_choice.specs.{Choice.choice_of, declared.algs.Algs.Algs, declared.algs.Eea.Eea, declared.caps.Caps.Caps, declared.choices.NoAlgorithm.NoAlgorithm as NoneChosen}
use Rattle.annex_a_keys.specs.Cell.{Place}
use Rattle.rec_base.specs.declared.faults.RecFault.{RecFault}
use Rattle.lte_events.specs.{declared.acts.CoreAct.CoreAct, declared.answers.Answer.Answer, Site.station_of}
use Rattle.lte_events.specs.declared.acts.CoreAct.TheVariants.{StartSmc, Connect, Release, SendNas, Skip}
use Rattle.lte_events.specs.declared.answers.Answer.TheVariants.{NoContext, MacFails, CountSpent, SmcOpen, NoAlgorithm, BadRecord, Short, BadHeader, WrongKind, NoUe, OldConnection, UnknownCell, Repeated, NumberSpent, NoTrigger, NoSmc}
use Rattle.nas_count.specs.{Estimate.nas_count_limit, Estimate.estimate_of, declared.sending.CountSpent.CountSpent as NoneLeft}
use Rattle.nas_guard.specs.Keys.{Keys}
use Rattle.nas_guard.specs.Open.{first_in, header_in, sn_in}
use Rattle.nas_rec.specs.{Reading.read_nas, Spelling.kind_of as nas_kind, declared.records.NasRecord.NasRecord}
use Rattle.nas_rec.specs.declared.records.NasRecord.TheVariants.{SecurityModeComplete, SecurityModeReject, ServiceRequest, NasData}
use Rattle.s1x2_rec.specs.Content.{Content}
use Rattle.s1x2_rec.specs.Fields.{Fields, PathSwitchRequest, HandoverRequired, HandoverRequestAck, HandoverNotify, HandoverCancel, kind_of}
use Rattle.lte_machine.specs.CoreState.{Core, CorePartial, CoreContext, CoreLink, CoreInput, CoreAuth, CoreActs, CoreNasPdu, CoreRecord}
use Rattle.lte_machine.specs.CoreRows.{CoreNasRow, NasRefused, PlainReject, SmcComplete, SmcChange, ServiceAsked, NasOpened, SealedReject, CoreRecordRow, RecordRefused, PathSwitched, HandoverAsked, HandoverOrdered, HandoverNotified, HandoverCancelled, CoreActRow, ActRefused, SmcStarted, ContextSetUp, ContextReleased, NasSent, NasSkipped, CoreRow, OfNas, OfRecord, OfAct, OfAuth}
use Rattle.lte_machine.specs.PhoneChoice.{same_caps}
use Rattle.lte_machine.specs.Opening.{Outcome, Opened, Differs}

-- the core, and what it gets, with keys out of sight and chain numbers seen by their NCCs
abbrev pub PlainCore : Type 0
PlainCore = Core (Unit {0}) ℕ

abbrev pub PlainCoreInput : Type 0
PlainCoreInput = CoreInput (Unit {0}) ℕ

-- what a NAS message comes to before it is opened
pub data CoreNasFront : Type 0 where
  -- its row, with nothing to open
  NasSettled : CoreNasRow → CoreNasFront
  -- a message under the keys of the open procedure: COUNT
  OpensComplete : ℕ → CoreNasFront
  -- a message under the keys of the context in use: security header type, COUNT
  OpensProtected : ℕ → ℕ → CoreNasFront

-- what an input comes to before anything is opened; a NAS message alone may open something
pub data CoreFront : Type 0 where
  Settled : CoreRow → CoreFront
  FromNas : CoreNasFront → CoreFront

-- NAS messages (TS 24.301 4.4, 5.4.3 and 5.6.1)

-- whether the core takes a first octet: the protocol discriminator 7 below the security header type 0, 1, 2 or 4
-- (TS 24.301 9.2 and 9.3.1)
abbrev pub core_takes : ℕ → Bool
core_takes octet =
    (octet % 16 == 7) && ((octet / 16 == 0) || ((octet / 16 == 1) || ((octet / 16 == 2) || (octet / 16 == 4))))

-- the security header type of a message: 0, 1, 2 or 4, in the first of its octets
unfoldable pub core_header : List ℕ → Result ℕ Answer
core_header pdu =
    if length pdu == 0 then Err Short
    else (if core_takes (first_in pdu) then Ok (header_in pdu) else Err (BadHeader (first_in pdu)))

-- a plain text, which only a Security Mode Reject may be (TS 24.301 4.4.4.3)
abbrev pub plain_text_row : Result NasRecord RecFault → CoreNasRow
plain_text_row (Err fault) = NasRefused (BadRecord fault)
plain_text_row (Ok (SecurityModeReject cause)) = PlainReject
plain_text_row (Ok other) = NasRefused (WrongKind (nas_kind other))

-- a plain message, by the procedure and the context in use: with a context in use the Reject comes protected
-- (TS 24.301 4.4.4.3 and 5.4.3.5)
abbrev pub plain_row : Option (Keys (Unit {0})) → Option (CoreContext (Unit {0})) → List ℕ → CoreNasRow
plain_row None context pdu = NasRefused NoSmc
plain_row (Some keys) (Some context) pdu = NasRefused (BadHeader (first_in pdu))
plain_row (Some keys) None pdu = plain_text_row (read_nas (drop 1 pdu))

abbrev pub opens_complete : Result ℕ NoneLeft → CoreNasFront
opens_complete (Err spent) = NasSettled (NasRefused CountSpent)
opens_complete (Ok count) = OpensComplete count

-- a message of header type 4: the COUNTs of a new context start at 0 (TS 24.301 4.4.3.1), so that its COUNT is the sequence
-- number, and never spent
abbrev pub complete_front : Option (Keys (Unit {0})) → List ℕ → CoreNasFront
complete_front None pdu = NasSettled (NasRefused NoSmc)
complete_front (Some keys) pdu = opens_complete (estimate_of 0 (sn_in pdu))

abbrev pub opens_protected : ℕ → Result ℕ NoneLeft → CoreNasFront
opens_protected header (Err spent) = NasSettled (NasRefused CountSpent)
opens_protected header (Ok count) = OpensProtected header count

-- a message of header type 1 or 2, under the context in use (TS 24.301 4.4.3.1 and 4.4.4.3)
abbrev pub protected_front : Option (CoreContext (Unit {0})) → ℕ → List ℕ → CoreNasFront
protected_front None header pdu = NasSettled (NasRefused NoContext)
protected_front (Some context) header pdu = opens_protected header (estimate_of context.nas.receive (sn_in pdu))

-- a message by its header type
abbrev pub core_nas_front : Option (Keys (Unit {0})) → Option (CoreContext (Unit {0})) → List ℕ → Result ℕ Answer → CoreNasFront
core_nas_front procedure context pdu (Err answer) = NasSettled (NasRefused answer)
core_nas_front procedure context pdu (Ok header) =
    if header == 0 then NasSettled (plain_row procedure context pdu)
    else (if nat_lt (length pdu) 6 then NasSettled (NasRefused Short)
    else (if header == 4 then complete_front procedure pdu else protected_front context header pdu))

-- this project's own rule: connections are numbered, by a counter that ends at 2^32 - 1 and never goes back
abbrev pub NUMBERS : ℕ
NUMBERS = 4294967296

-- the end of a procedure (TS 24.301 5.4.3.4). This project's own rule: where a connection stands and a number is left, its key
-- changes at once, under the next number; where none is left it stays as it is (TS 33.401 7.2.9.2)
abbrev pub completed_row : ℕ → ℕ → Option (CoreLink (Unit {0}) ℕ) → CoreNasRow
completed_row count next None = SmcComplete count
completed_row count next (Some link) =
    if nat_le NUMBERS next then SmcComplete count else SmcChange count link.conn next link.station

-- the text of a message of header type 4 (TS 24.301 5.4.3.4), by the next connection number and the connection
abbrev pub complete_row : ℕ → ℕ → Option (CoreLink (Unit {0}) ℕ) → Result NasRecord RecFault → CoreNasRow
complete_row count next link (Err fault) = NasRefused (BadRecord fault)
complete_row count next link (Ok SecurityModeComplete) = completed_row count next link
complete_row count next link (Ok other) = NasRefused (WrongKind (nas_kind other))

-- a protected Reject, by the procedure (TS 24.301 5.4.3.5)
abbrev pub reject_row : Option (Keys (Unit {0})) → ℕ → CoreNasRow
reject_row None count = NasRefused NoSmc
reject_row (Some keys) count = SealedReject count

-- the text of a message of header type 1 or 2, which differ in ciphering alone (TS 24.301 9.3.1)
abbrev pub protected_row : Option (Keys (Unit {0})) → ℕ → Result NasRecord RecFault → CoreNasRow
protected_row procedure count (Err fault) = NasRefused (BadRecord fault)
protected_row procedure count (Ok ServiceRequest) = ServiceAsked count
protected_row procedure count (Ok (NasData text)) = NasOpened count text
protected_row procedure count (Ok (SecurityModeReject cause)) = reject_row procedure count
protected_row procedure count (Ok other) = NasRefused (WrongKind (nas_kind other))

-- a message as it opened, or with a MAC that differs (TS 24.301 4.4.4.3)
abbrev pub core_nas_row :
    Option (Keys (Unit {0})) → ℕ → Option (CoreLink (Unit {0}) ℕ) → CoreNasFront → Outcome → CoreNasRow
core_nas_row procedure next link (NasSettled row) outcome = row
core_nas_row procedure next link (OpensComplete count) (Differs wanted got) = NasRefused (MacFails count wanted got)
core_nas_row procedure next link (OpensComplete count) (Opened text) = complete_row count next link (read_nas text)
core_nas_row procedure next link (OpensProtected header count) (Differs wanted got) = NasRefused (MacFails count wanted got)
core_nas_row procedure next link (OpensProtected header count) (Opened text) = protected_row procedure count (read_nas text)

-- records on S1 (TS 36.413 8.3, 8.4 and 9.1, TS 33.401 7.2.8.4)

-- a Path Switch Request (TS 36.413 8.4.4). This project's own rule: a number of a station is taken once. Capabilities
-- that differ from those of the latest authentication raise an alarm and change nothing else (TS 33.401 7.2.4.2.2)
abbrev pub path_switch_row : PlainCore → ℕ → ℕ → ℕ → Caps → CoreRecordRow
path_switch_row s conn station number caps =
    let seen = slice_index s.requests station in
    if nat_le number seen then RecordRefused (Repeated seen number)
    else PathSwitched conn station number (not (same_caps caps s.latest))

-- the capabilities of the context in use; a connection never stands without one
abbrev pub caps_in_use : Option (CoreContext (Unit {0})) → Caps
caps_in_use None = record { eea = 0; eia = 0 }
caps_in_use (Some context) = context.caps

abbrev pub asked_at : ℕ → ℕ → ℕ → Place → Caps → Option ℕ → CoreRecordRow
asked_at conn source attempt cell caps None = RecordRefused UnknownCell
asked_at conn source attempt cell caps (Some target) = HandoverAsked conn source attempt cell target caps

-- a Handover Required (TS 36.413 8.4.1). This project's own rule: an attempt of a station is taken once
abbrev pub required_row : PlainCore → ℕ → ℕ → ℕ → Place → CoreRecordRow
required_row s conn source attempt cell =
    let seen = slice_index s.attempts source in
    if nat_le attempt seen then RecordRefused (Repeated seen attempt)
    else asked_at conn source attempt cell (caps_in_use s.context) (station_of cell s.cells)

abbrev pub cancelled_at : ℕ → ℕ → ℕ → Place → Option ℕ → CoreRecordRow
cancelled_at conn source attempt cell None = RecordRefused UnknownCell
cancelled_at conn source attempt cell (Some target) = HandoverCancelled conn source attempt cell target

-- a record of the connection. This project's own rule: the number of a connection tells it from those before it
abbrev pub of_link : Option (CoreLink (Unit {0}) ℕ) → ℕ → CoreRecordRow → CoreRecordRow
of_link None conn row = RecordRefused (OldConnection 0 conn)
of_link (Some link) conn row = if link.conn == conn then row else RecordRefused (OldConnection link.conn conn)

-- the kinds that go to the core, each from a station (TS 36.413 9.1.5)
abbrev pub core_fields_row : PlainCore → Fields → CoreRecordRow
core_fields_row s (PathSwitchRequest conn station number cell caps) =
    of_link s.link conn (path_switch_row s conn station number caps)
core_fields_row s (HandoverRequired conn station attempt cell) =
    of_link s.link conn (required_row s conn station attempt cell)
core_fields_row s (HandoverRequestAck conn source attempt cell ncc algs air) =
    of_link s.link conn (HandoverOrdered conn source attempt cell ncc algs air)
core_fields_row s (HandoverNotify conn station cell) = of_link s.link conn (HandoverNotified station)
core_fields_row s (HandoverCancel conn source attempt cell) =
    of_link s.link conn (cancelled_at conn source attempt cell (station_of cell s.cells))
core_fields_row s other = RecordRefused (WrongKind (kind_of other))

abbrev pub core_record_row : PlainCore → Result (Content (Unit {0}) ℕ) RecFault → CoreRecordRow
core_record_row s (Err fault) = RecordRefused (BadRecord fault)
core_record_row s (Ok content) = core_fields_row s content.fields

-- acts

-- a Security Mode Command with the first algorithms of the core's list that the phone supports (TS 33.401 7.2.4.3.1)
abbrev pub smc_row : CorePartial (Unit {0}) → Result Algs NoneChosen → CoreActRow
smc_row partial (Err none) = ActRefused NoAlgorithm
smc_row partial (Ok algs) =
    if nat_le nas_count_limit partial.send then ActRefused CountSpent else SmcStarted partial.ksi algs partial.caps partial.send

-- one procedure at a time (TS 24.301 5.4.3.2)
abbrev pub start_smc_row : List Eea → Option (CorePartial (Unit {0})) → Option (Keys (Unit {0})) → CoreActRow
start_smc_row priority None procedure = ActRefused NoContext
start_smc_row priority (Some partial) (Some keys) = ActRefused SmcOpen
start_smc_row priority (Some partial) None = smc_row partial (choice_of priority partial.caps)

abbrev pub set_up_row : ℕ → Place → ℕ → Caps → ℕ → CoreActRow
set_up_row next cell target caps count =
    if nat_le NUMBERS next then ActRefused NumberSpent else ContextSetUp next cell target caps count

-- a connection in a cell, for the COUNT of the latest trigger (TS 33.401 7.2.6.2). This project's own rule: a trigger
-- serves for one connection
abbrev pub connect_row : ℕ → Place → Option ℕ → Option (CoreContext (Unit {0})) → Option ℕ → CoreActRow
connect_row next cell None context trigger = ActRefused UnknownCell
connect_row next cell (Some target) None trigger = ActRefused NoContext
connect_row next cell (Some target) (Some context) None = ActRefused NoTrigger
connect_row next cell (Some target) (Some context) (Some count) = set_up_row next cell target context.caps count

-- TS 36.413 8.3.3
abbrev pub release_row : Option (CoreLink (Unit {0}) ℕ) → CoreActRow
release_row None = ActRefused NoUe
release_row (Some link) = ContextReleased link.conn link.station

-- a NAS text under the context in use (TS 24.301 4.4.3.1 and 4.4.5)
abbrev pub send_nas_row : Option (CoreContext (Unit {0})) → List ℕ → CoreActRow
send_nas_row None text = ActRefused NoContext
send_nas_row (Some context) text =
    if nat_le nas_count_limit context.nas.send then ActRefused CountSpent else NasSent context.nas.send text

-- downlink messages that are lost, each with its COUNT
abbrev pub skip_nas_row : Option (CoreContext (Unit {0})) → ℕ → CoreActRow
skip_nas_row None n = ActRefused NoContext
skip_nas_row (Some context) n = NasSkipped n

abbrev pub core_act_row : PlainCore → CoreAct → CoreActRow
core_act_row s StartSmc = start_smc_row s.priority s.partial s.procedure
core_act_row s (Connect cell) = connect_row s.next cell (station_of cell s.cells) s.context s.trigger
core_act_row s Release = release_row s.link
core_act_row s (SendNas text) = send_nas_row s.context text
core_act_row s (Skip n) = skip_nas_row s.context n

-- an input

abbrev pub core_front : PlainCore → PlainCoreInput → CoreFront
core_front s (CoreAuth ksi root caps) = Settled (OfAuth ksi caps)
core_front s (CoreActs act) = Settled (OfAct (core_act_row s act))
core_front s (CoreNasPdu pdu) = FromNas (core_nas_front s.procedure s.context pdu (core_header pdu))
core_front s (CoreRecord read) = Settled (OfRecord (core_record_row s read))

abbrev pub core_row : PlainCore → CoreFront → Outcome → CoreRow
core_row s (Settled row) outcome = row
core_row s (FromNas front) outcome = OfNas (core_nas_row s.procedure s.next s.link front outcome)
