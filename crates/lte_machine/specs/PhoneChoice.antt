-- What the phone does on an input, as far as no key tells: it sees its state without keys, and chain numbers by their NCC.
-- First the refusals before a record is opened, and then those after, in the order in which they are tried.
use Rattle.std.specs.Prelude.{ℕ, ◌-◌, ◌/◌, ◌%◌, ◌==◌, ◌&&◌, nat_le, nat_lt, Bool, true, false, if◌then◌else◌, List, drop, length, take, Option, Some, None, Result, Ok, Err}
use Rattle.alg_choice.specs.{declared.algs.Algs.Algs, declared.caps.Caps.Caps, Choice.are_supported}
use Rattle.annex_a_keys.specs.Cell.{Place}
use Rattle.key_model.specs.HandoverLines.{steps_to}
use Rattle.rec_base.specs.{declared.faults.RecFault.RecFault, Lengths.longest_packet}
use Rattle.lte_events.specs.{declared.answers.Answer.Answer, declared.acts.PhoneAct.PhoneAct}
use Rattle.lte_events.specs.declared.answers.Answer.TheVariants.{Done, NoContext, WrongKsi, CapsMismatch, AlgUnsupported, MacFails, CountSpent, BadRecord, Short, BadHeader, WrongKind, NotConnected, NotAddressed, NothingToResend, AlreadyConnected}
use Rattle.lte_events.specs.declared.acts.PhoneAct as acts
use Rattle.nas_count.specs.declared.sending.CountSpent as spent
use Rattle.nas_count.specs.Estimate.{nas_count_limit, estimate_of}
use Rattle.nas_guard.specs.Open.{first_in, header_in, sn_in, sent_in}
use Rattle.nas_rec.specs.declared.records.NasRecord as nas
use Rattle.nas_rec.specs.{declared.records.NasRecord.NasRecord, Reading.read_nas, Spelling.kind_of as nas_kind}
use Rattle.rrc_rec.specs.declared.records.RrcRecord as rrc
use Rattle.rrc_rec.specs.{declared.records.RrcRecord.RrcRecord, Forms.reconfiguration, Forms.key_change, Reading.read_rrc, Spelling.kind_of as rrc_kind}
use Rattle.pdcp_guard.specs.{declared.pdus.PdcpFault.PdcpFault, Srb.srb_count, Drb.drb_count}
use Rattle.lte_machine.specs.Bearers.{Srb, Signalling1, Signalling2, Drb, Which, OnSrb, OnDrb, which, srb_counts, drb_counts, is_spent}
use Rattle.lte_machine.specs.Opening.{Outcome, Opened, Differs}
use Rattle.lte_machine.specs.Refusals.{of_pdcp}
use Rattle.lte_machine.specs.PhoneState.{Partial, NasContext, Link, Radio, Idle, Connecting, Connected, Phone, PhoneInput, PhoneAuth, PhoneActs, PhoneNasPdu, PhoneAirPdu}
use Rattle.lte_machine.specs.PhoneRows.{Authenticated, NasRow, NasRefused, RejectedPlain, RejectedUnder, ContextTaken, ContextTakenConnected, NasOpened, AirRow, AirRefused, LinkSecured, HandedOver, KeyChanged, RrcOpened, PacketOpened, ActRow, ActRefused, ServiceRequested, CompleteResent, WentIdle, PacketSent, RrcSent, NasSent, NasSkipped, BearerSkipped, PhoneRow, OfAuth, OfNas, OfAir, OfAct}

-- the phone without keys, and an input without its key
abbrev pub PlainPhone : Type 0
PlainPhone = Phone (Unit {0}) ℕ

abbrev pub PlainInput : Type 0
PlainInput = PhoneInput (Unit {0})

-- on a NAS message, as far as it goes without opening it
pub data NasFront : Type 0 where
  NasSettled : NasRow → NasFront
  -- a SECURITY MODE COMMAND would be opened at a COUNT: its algorithms, and the capabilities that it replays
  AtCommand : ℕ → Algs → Caps → NasFront
  -- another message would be opened at a COUNT, by its header type
  AtMessage : ℕ → ℕ → NasFront

-- on a PDU of a radio bearer, as far as it goes without opening it
pub data AirFront : Type 0 where
  AirSettled : AirRow → AirFront
  -- an RRC SecurityModeCommand would be opened at a COUNT: its algorithms, and whether it names the phone's station and
  -- air address, which are these
  AtStart : ℕ → Algs → Bool → ℕ → ℕ → AirFront
  -- a PDU of an SRB would be opened at a COUNT, by a phone with this NCC
  AtSignalling : Srb → ℕ → ℕ → AirFront
  -- a PDU of a DRB would be opened at a COUNT
  AtPacket : Drb → ℕ → AirFront

pub data PhoneFront : Type 0 where
  Settled : PhoneRow → PhoneFront
  FromNas : NasFront → PhoneFront
  FromAir : AirFront → PhoneFront

-- NAS messages (TS 24.301 4.4.3 to 4.4.5 and 5.4.3)

-- a first octet of a message that the phone takes: protocol discriminator 7 and header type 1 to 3 (9.2 and 9.3.1)
abbrev pub is_for_phone : ℕ → Bool
is_for_phone octet = (octet % 16 == 7) && (nat_le 1 (octet / 16) && nat_le (octet / 16) 3)

-- the header type of a message, or why it is none (9.1)
unfoldable pub header_for_phone : List ℕ → Result ℕ Answer
header_for_phone pdu =
    if length pdu == 0 then Err Short
    else (if is_for_phone (first_in pdu) then (if nat_lt (length pdu) 6 then Err Short else Ok (header_in pdu))
    else Err (BadHeader (first_in pdu)))

-- a SECURITY MODE REJECT: under the context in use, or as it is where there is none (5.4.3.5). This project's own rule:
-- where no uplink COUNT is left, nothing is sent
abbrev pub rejected : Answer → ℕ → Option (NasContext (Unit {0})) → NasRow
rejected answer cause None = RejectedPlain answer cause
rejected answer cause (Some c) = if nat_le nas_count_limit c.send then NasRefused answer else RejectedUnder answer cause

-- causes of 9.9.3.9: the replayed capabilities are not the phone's, and any other
abbrev pub capabilities_mismatch : ℕ
capabilities_mismatch = 23

abbrev pub rejected_unspecified : ℕ
rejected_unspecified = 24

-- the COUNT of a command, the first of its context (4.4.3.1)
abbrev pub command_at : Algs → Caps → Result ℕ spent.CountSpent → NasFront
command_at algs caps (Ok count) = AtCommand count algs caps
command_at algs caps (Err none_left) = NasSettled (NasRefused CountSpent)

-- a command for the partial context (5.4.3.3). This project's own rules: KSI and algorithms are looked at before the MAC,
-- and a text that does not read is not answered
abbrev pub command_read : Caps → Option (NasContext (Unit {0})) → ℕ → List ℕ → Result NasRecord RecFault → NasFront
command_read own context held pdu (Err fault) = NasSettled (NasRefused (BadRecord fault))
command_read own context held pdu (Ok (nas.TheVariants.SecurityModeCommand ksi algs caps)) =
    if ksi == held then
    (if are_supported own algs then command_at algs caps (estimate_of 0 (sn_in pdu))
    else NasSettled (rejected (AlgUnsupported algs) rejected_unspecified context))
    else NasSettled (rejected (WrongKsi held ksi) rejected_unspecified context)
command_read own context held pdu (Ok other) = NasSettled (NasRefused (WrongKind (nas_kind other)))

-- header type 3: integrity protected with a new security context, and not ciphered (9.3.1)
abbrev pub command_front : Caps → Option (NasContext (Unit {0})) → List ℕ → Option (Partial (Unit {0})) → NasFront
command_front own context pdu None = NasSettled (NasRefused NoContext)
command_front own context pdu (Some p) = command_read own context p.ksi pdu (read_nas (sent_in pdu))

abbrev pub message_at : ℕ → Result ℕ spent.CountSpent → NasFront
message_at header (Ok count) = AtMessage count header
message_at header (Err none_left) = NasSettled (NasRefused CountSpent)

-- header types 1 and 2: under the context in use (4.4.3.1)
abbrev pub message_front : ℕ → List ℕ → Option (NasContext (Unit {0})) → NasFront
message_front header pdu None = NasSettled (NasRefused NoContext)
message_front header pdu (Some c) = message_at header (estimate_of c.receive (sn_in pdu))

-- by the phone's capabilities, its partial context and the context in use
abbrev pub nas_by_header :
    Caps → Option (Partial (Unit {0})) → Option (NasContext (Unit {0})) → List ℕ → Result ℕ Answer → NasFront
nas_by_header own partial context pdu (Err answer) = NasSettled (NasRefused answer)
nas_by_header own partial context pdu (Ok header) =
    if header == 3 then command_front own context pdu partial else message_front header pdu context

-- a context is taken, and the phone waits for its connection unless it has one (TS 33.401 7.2.8.1.1)
abbrev pub context_row : Algs → ℕ → Radio (Unit {0}) ℕ → NasRow
context_row algs count (Connected link) = ContextTakenConnected algs count
context_row algs count other = ContextTaken algs count

-- whether capabilities are the same, octet for octet (TS 24.301 5.4.3.3, TS 33.401 7.2.4.2.2)
abbrev pub same_caps : Caps → Caps → Bool
same_caps a b = (a.eea == b.eea) && (a.eia == b.eia)

-- the MAC of a command, and then its replayed capabilities (TS 24.301 5.4.3.3, TS 33.401 7.2.4.4)
abbrev pub command_row :
    Caps → Option (NasContext (Unit {0})) → Radio (Unit {0}) ℕ → ℕ → Algs → Caps → Outcome → NasRow
command_row own context radio count algs caps (Differs wanted got) =
    rejected (MacFails count wanted got) rejected_unspecified context
command_row own context radio count algs caps (Opened text) =
    if same_caps own caps then context_row algs count radio
    else rejected (CapsMismatch own caps) capabilities_mismatch context

-- the text of another message
abbrev pub message_read : ℕ → Result NasRecord RecFault → NasRow
message_read count (Err fault) = NasRefused (BadRecord fault)
message_read count (Ok (nas.TheVariants.NasData text)) = NasOpened count text
message_read count (Ok other) = NasRefused (WrongKind (nas_kind other))

abbrev pub message_row : ℕ → Outcome → NasRow
message_row count (Differs wanted got) = NasRefused (MacFails count wanted got)
message_row count (Opened text) = message_read count (read_nas text)

abbrev pub nas_row :
    Caps → Option (NasContext (Unit {0})) → Radio (Unit {0}) ℕ → NasFront → Outcome → NasRow
nas_row own context radio (NasSettled row) outcome = row
nas_row own context radio (AtCommand count algs caps) outcome = command_row own context radio count algs caps outcome
nas_row own context radio (AtMessage count header) outcome = message_row count outcome

-- PDUs of radio bearers (TS 36.323 5.1.2, 5.6 and 5.7, TS 36.331 5.3.4 and 5.3.5)

-- the data of an SRB's PDU that is not ciphered: between the header and MAC-I (TS 36.323 6.2.2)
abbrev pub unciphered_text : List ℕ → List ℕ
unciphered_text pdu = take (length pdu - 5) (drop 1 pdu)

-- the text of the record that starts a connection's security, before its MAC is looked at: KRRCint is of the algorithms
-- that it names (TS 36.331 5.3.4.3). This project's own rule: it names its station and air address too
abbrev pub start_read : Caps → ℕ → ℕ → ℕ → Result RrcRecord RecFault → AirFront
start_read caps station air count (Err fault) = AirSettled (AirRefused (BadRecord fault))
start_read caps station air count (Ok (rrc.TheVariants.SecurityModeCommand algs named_station named_air)) =
    if are_supported caps algs
    then AtStart count algs ((named_station == station) && (named_air == air)) station air
    else AirSettled (AirRefused (AlgUnsupported algs))
start_read caps station air count (Ok other) = AirSettled (AirRefused (WrongKind (rrc_kind other)))

abbrev pub start_at : Caps → ℕ → ℕ → List ℕ → Result ℕ PdcpFault → AirFront
start_at caps station air pdu (Err fault) = AirSettled (AirRefused (of_pdcp fault))
start_at caps station air pdu (Ok count) = start_read caps station air count (read_rrc (unciphered_text pdu))

-- a phone that waits for the security of its connection takes SRB1 alone (TS 36.331 5.3.1.1)
abbrev pub waiting_front : Caps → ℕ → ℕ → List ℕ → Which → AirFront
waiting_front caps station air pdu (OnSrb Signalling1) = start_at caps station air pdu (srb_count 0 pdu)
waiting_front caps station air pdu other = AirSettled (AirRefused NotConnected)

abbrev pub signalling_at : Srb → ℕ → Result ℕ PdcpFault → AirFront
signalling_at srb own (Err fault) = AirSettled (AirRefused (of_pdcp fault))
signalling_at srb own (Ok count) = AtSignalling srb count own

abbrev pub packet_at : Drb → Result ℕ PdcpFault → AirFront
packet_at drb (Err fault) = AirSettled (AirRefused (of_pdcp fault))
packet_at drb (Ok count) = AtPacket drb count

abbrev pub linked_front : Link (Unit {0}) ℕ → List ℕ → Which → AirFront
linked_front l pdu (OnSrb srb) =
    signalling_at srb l.chain.number (srb_count (srb_counts srb l.bearers).receive pdu)
linked_front l pdu (OnDrb drb) = packet_at drb (drb_count (drb_counts drb l.bearers).receive pdu)

abbrev pub air_front : Caps → ℕ → ℕ → List ℕ → Which → Radio (Unit {0}) ℕ → AirFront
air_front caps station air pdu bearer Idle = AirSettled (AirRefused NotConnected)
air_front caps station air pdu bearer (Connecting w) = waiting_front caps station air pdu bearer
air_front caps station air pdu bearer (Connected l) =
    if (l.station == station) && (l.air == air) then linked_front l pdu bearer else AirSettled (AirRefused NotAddressed)

-- the record that starts a connection's security (TS 36.331 5.3.4.3, TS 33.401 7.2.4.5). This project's own rule: one
-- that fails is not answered
abbrev pub start_row : ℕ → Algs → Bool → ℕ → ℕ → Outcome → AirRow
start_row count algs named station air (Differs wanted got) = AirRefused (MacFails count wanted got)
start_row count algs named station air (Opened text) =
    if named then LinkSecured station air algs count else AirRefused NotAddressed

-- a handover command (TS 36.331 5.3.5.4): on SRB1 (4.2.2), with algorithms of the phone's own. This project's own rule:
-- after another one the connection stays as it is, and is not re-established (5.3.5.5 and 5.3.7)
abbrev pub command_taken : Caps → Srb → ℕ → Place → ℕ → Algs → ℕ → ℕ → AirRow
command_taken caps Signalling1 own cell ncc algs station air =
    if are_supported caps algs then HandedOver cell (steps_to own ncc) algs station air
    else AirRefused (AlgUnsupported algs)
command_taken caps Signalling2 own cell ncc algs station air = AirRefused (WrongKind reconfiguration.kind)

-- a key change: the same tests. Whether the phone has another KASME to derive from is looked at with its keys
abbrev pub change_taken : Caps → Srb → Place → Algs → ℕ → ℕ → AirRow
change_taken caps Signalling1 cell algs station air =
    if are_supported caps algs then KeyChanged cell algs station air else AirRefused (AlgUnsupported algs)
change_taken caps Signalling2 cell algs station air = AirRefused (WrongKind key_change.kind)

abbrev pub signalling_read : Caps → Srb → ℕ → ℕ → Result RrcRecord RecFault → AirRow
signalling_read caps srb count own (Err fault) = AirRefused (BadRecord fault)
signalling_read caps srb count own (Ok (rrc.TheVariants.RrcData text)) = RrcOpened srb count text
signalling_read caps srb count own (Ok (rrc.TheVariants.Reconfiguration cell ncc algs station air)) =
    command_taken caps srb own cell ncc algs station air
signalling_read caps srb count own (Ok (rrc.TheVariants.KeyChange cell algs station air)) =
    change_taken caps srb cell algs station air
signalling_read caps srb count own (Ok other) = AirRefused (WrongKind (rrc_kind other))

abbrev pub signalling_row : Caps → Srb → ℕ → ℕ → Outcome → AirRow
signalling_row caps srb count own (Differs wanted got) = AirRefused (MacFails count wanted got)
signalling_row caps srb count own (Opened text) = signalling_read caps srb count own (read_rrc text)

-- a packet on a DRB has no integrity, and always opens (TS 36.323 5.6). This project's own rule: the first 1,500 octets of
-- its text are handed on
abbrev pub packet_row : Drb → ℕ → Outcome → AirRow
packet_row drb count (Differs wanted got) = AirRefused (MacFails count wanted got)
packet_row drb count (Opened text) = PacketOpened drb count (take longest_packet text)

abbrev pub air_row : Caps → AirFront → Outcome → AirRow
air_row caps (AirSettled row) outcome = row
air_row caps (AtStart count algs named station air) outcome = start_row count algs named station air outcome
air_row caps (AtSignalling srb count own) outcome = signalling_row caps srb count own outcome
air_row caps (AtPacket drb count) outcome = packet_row drb count outcome

-- acts of the phone's own

-- an act that needs a next COUNT
abbrev pub unless_spent : Bool → ActRow → ActRow
unless_spent true row = ActRefused CountSpent
unless_spent false row = row

-- one under the NAS context in use
abbrev pub under_context : Option (NasContext (Unit {0})) → ActRow → ActRow
under_context None row = ActRefused NoContext
under_context (Some c) row = unless_spent (nat_le nas_count_limit c.send) row

-- a SERVICE REQUEST, of a phone with no connection (TS 24.301 5.6.1.1)
abbrev pub service_row : Option (NasContext (Unit {0})) → Radio (Unit {0}) ℕ → ActRow
service_row context (Connected l) = ActRefused AlreadyConnected
service_row context other = under_context context ServiceRequested

-- the completion of a handover once more
abbrev pub resend_row : Radio (Unit {0}) ℕ → ActRow
resend_row (Connected l) =
    if l.by_handover then unless_spent (is_spent l.bearers.srb1) CompleteResent else ActRefused NothingToResend
resend_row other = ActRefused NotConnected

abbrev pub idle_row : Radio (Unit {0}) ℕ → ActRow
idle_row Idle = ActRefused NotConnected
idle_row other = WentIdle

-- a user packet goes on a DRB; no caller asks for another bearer
abbrev pub packet_sent_row : List ℕ → Which → Radio (Unit {0}) ℕ → ActRow
packet_sent_row text (OnSrb srb) radio = ActRefused Done
packet_sent_row text (OnDrb drb) (Connected l) = unless_spent (is_spent (drb_counts drb l.bearers)) (PacketSent drb text)
packet_sent_row text (OnDrb drb) other = ActRefused NotConnected

-- an RRC text goes on an SRB; no caller asks for another bearer
abbrev pub rrc_sent_row : List ℕ → Which → Radio (Unit {0}) ℕ → ActRow
rrc_sent_row text (OnDrb drb) radio = ActRefused Done
rrc_sent_row text (OnSrb srb) (Connected l) = unless_spent (is_spent (srb_counts srb l.bearers)) (RrcSent srb text)
rrc_sent_row text (OnSrb srb) other = ActRefused NotConnected

abbrev pub nas_skipped_row : ℕ → Option (NasContext (Unit {0})) → ActRow
nas_skipped_row n None = ActRefused NoContext
nas_skipped_row n (Some c) = NasSkipped n

abbrev pub bearer_skipped_row : Which → ℕ → Radio (Unit {0}) ℕ → ActRow
bearer_skipped_row bearer n (Connected l) = BearerSkipped bearer n
bearer_skipped_row bearer n other = ActRefused NotConnected

abbrev pub act_row : PlainPhone → PhoneAct → ActRow
act_row s acts.TheVariants.ServiceRequest = service_row s.context s.radio
act_row s acts.TheVariants.ResendComplete = resend_row s.radio
act_row s acts.TheVariants.GoIdle = idle_row s.radio
act_row s (acts.TheVariants.SendUser bearer text) = packet_sent_row text (which bearer) s.radio
act_row s (acts.TheVariants.SendRrc bearer text) = rrc_sent_row text (which bearer) s.radio
act_row s (acts.TheVariants.SendNas text) = under_context s.context (NasSent text)
act_row s (acts.TheVariants.Skip None n) = nas_skipped_row n s.context
act_row s (acts.TheVariants.Skip (Some bearer) n) = bearer_skipped_row (which bearer) n s.radio

-- all refusals before an opening, in their order
abbrev pub phone_front : PlainPhone → PlainInput → PhoneFront
phone_front s (PhoneAuth ksi root) = Settled (OfAuth (Authenticated ksi))
phone_front s (PhoneActs act) = Settled (OfAct (act_row s act))
phone_front s (PhoneNasPdu pdu) = FromNas (nas_by_header s.caps s.partial s.context pdu (header_for_phone pdu))
phone_front s (PhoneAirPdu station air bearer pdu) = FromAir (air_front s.caps station air pdu (which bearer) s.radio)

-- all refusals after it
abbrev pub phone_row : PlainPhone → PhoneFront → Outcome → PhoneRow
phone_row s (Settled row) outcome = row
phone_row s (FromNas front) outcome = OfNas (nas_row s.caps s.context s.radio front outcome)
phone_row s (FromAir front) outcome = OfAir (air_row s.caps front outcome)
