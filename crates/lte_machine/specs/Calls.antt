-- The steps of the three actors as the program calls them: with keys in octets, chain numbers as NCCs, and the algorithms of
-- TS 33.401 Annex B.
use Rattle.std.specs.Prelude.{ℕ, List, map, Option, Some, None, option_map}
use Rattle.rec_base.specs.declared.uses.Use as uses
use Rattle.key_model.specs.{Derivation.derived_of, Reading.octet_reading}
use Rattle.s1x2_rec.specs.Reading.{read_core}
use Rattle.lte_events.specs.declared.inputs.PhoneIn as phone_in
use Rattle.lte_events.specs.declared.inputs.StationIn as station_in
use Rattle.lte_events.specs.declared.inputs.CoreIn as core_in
use Rattle.lte_events.specs.{declared.classes.Class.Class, declared.lines.Who.Who, declared.answers.Answer.TheVariants.Done}
use Rattle.lte_events.specs.declared.lines.Line as lines
use Rattle.lte_events.specs.declared.replies.ActorOut as replies
use Rattle.lte_events.specs.declared.replies.KeyNote as notes
use Rattle.lte_events.specs.declared.replies.Record as records
use Rattle.lte_machine.specs.Ciphers.{annex_b, octets_of, written}
use Rattle.lte_machine.specs.CoreState.{Core, CoreInput, CoreAuth, CoreActs, CoreNasPdu, CoreRecord}
use Rattle.lte_machine.specs.CoreStep.{core_step, core_opens, core_pdu_in}
use Rattle.lte_machine.specs.{Machines.Kept, Opening.open_octets, World.Line, World.uses_in}
use Rattle.lte_machine.specs.PhoneState.{Phone, PhoneInput, PhoneAuth, PhoneActs, PhoneNasPdu, PhoneAirPdu}
use Rattle.lte_machine.specs.PhoneStep.{phone_step, phone_opens, phone_pdu_in}
use Rattle.lte_machine.specs.Reply.{Note, Reply, only}
use Rattle.lte_machine.specs.StationState.{Station, StationInput, StationActs, AirPdu, StationRecord, OnS1, OnX2}
use Rattle.lte_machine.specs.StationStep.{station_step, station_opens, station_pdu_in}
use Rattle.lte_machine.specs.Wire.{KeyUse, Outgoing, address_of, integrity_of}

-- INPUTS, a record on S1 or X2 as it reads

abbrev pub phone_input : phone_in.PhoneIn → PhoneInput (List ℕ)
phone_input (phone_in.TheVariants.Auth ksi root) = PhoneAuth ksi root
phone_input (phone_in.TheVariants.Act act) = PhoneActs act
phone_input (phone_in.TheVariants.Nas pdu) = PhoneNasPdu pdu
phone_input (phone_in.TheVariants.Air station air bearer pdu) = PhoneAirPdu station air bearer pdu

abbrev pub station_input : station_in.StationIn → StationInput (List ℕ) ℕ
station_input (station_in.TheVariants.Act act) = StationActs act
station_input (station_in.TheVariants.Air air bearer pdu) = AirPdu air bearer pdu
station_input (station_in.TheVariants.S1 octets) = StationRecord OnS1 (read_core octets)
station_input (station_in.TheVariants.X2 octets) = StationRecord OnX2 (read_core octets)

abbrev pub core_input : core_in.CoreIn → CoreInput (List ℕ) ℕ
core_input (core_in.TheVariants.Auth ksi root caps) = CoreAuth ksi root caps
core_input (core_in.TheVariants.Act act) = CoreActs act
core_input (core_in.TheVariants.Nas pdu) = CoreNasPdu pdu
core_input (core_in.TheVariants.S1 octets) = CoreRecord (read_core octets)

-- REPLIES

abbrev pub use_out : KeyUse (List ℕ) → uses.Use
use_out u = record { key = u.key; count = u.count; bearer = u.bearer; dir = u.dir }

-- a record that is sent: its address and its octets
abbrev pub record_out : Outgoing (List ℕ) ℕ → records.Record
record_out x = record { to = address_of x; octets = octets_of annex_b written x }

-- its integrity use, if one was sent and is sealed
abbrev pub tuple_out : Option (Outgoing (List ℕ) ℕ) → Option uses.Use
tuple_out None = None
tuple_out (Some x) = option_map use_out (integrity_of x)

abbrev pub note_out : Note (List ℕ) → notes.KeyNote
note_out n = record { ncc = n.ncc; way = n.way; key = n.key }

-- what an actor gives out, as its caller sees it
abbrev pub actor_out : Reply (List ℕ) ℕ → replies.ActorOut
actor_out r = record {
  answer = r.answer;
  sent = option_map record_out r.sent;
  tuple = tuple_out r.sent;
  opened = r.opened;
  derived = map derived_of r.derived;
  received = r.received;
  used = map use_out (uses_in r.sent);
  accepted = option_map use_out r.accepted;
  note = option_map note_out r.note;
  alarm = r.alarm;
}

-- and what the network keeps of that: the record with its integrity use
abbrev pub use_in : uses.Use → KeyUse (List ℕ)
use_in u = record { key = u.key; count = u.count; bearer = u.bearer; dir = u.dir }

abbrev pub kept_record : Option uses.Use → records.Record → Kept
kept_record tuple x = record { to = x.to; octets = x.octets; tuple = option_map use_in tuple }

abbrev pub record_kept : replies.ActorOut → Option Kept
record_kept out = option_map (kept_record out.tuple) out.sent

-- a reply that sends this and nothing else
abbrev pub sending : Outgoing (List ℕ) ℕ → replies.ActorOut
sending x = actor_out (record (only Done) { sent = Some x })

-- CALLS: the actor afterwards, and its reply

abbrev pub phone_call : Phone (List ℕ) ℕ → phone_in.PhoneIn → Phone (List ℕ) ℕ × replies.ActorOut
phone_call s i =
    let input = phone_input i in
    let outcome = open_octets annex_b (phone_opens octet_reading s input) (phone_pdu_in input) in
    let done = phone_step octet_reading s input outcome in
    (done.0, actor_out done.1)

abbrev pub station_call : Station (List ℕ) ℕ → station_in.StationIn → Station (List ℕ) ℕ × replies.ActorOut
station_call s i =
    let input = station_input i in
    let outcome = open_octets annex_b (station_opens octet_reading s input) (station_pdu_in input) in
    let done = station_step octet_reading s input outcome in
    (done.0, actor_out done.1)

abbrev pub core_call : Core (List ℕ) ℕ → core_in.CoreIn → Core (List ℕ) ℕ × replies.ActorOut
core_call s i =
    let input = core_input i in
    let outcome = open_octets annex_b (core_opens octet_reading s input) (core_pdu_in input) in
    let done = core_step octet_reading s input outcome in
    (done.0, actor_out done.1)

-- LINES

-- the line of a reply, as event number so many of a run, with the number of the record sent and its interface
abbrev pub line_of_reply : ℕ → Who → Option (ℕ × Class) → replies.ActorOut → lines.Line
line_of_reply step who sent out = record {
  step = step;
  who = who;
  answer = out.answer;
  sent = sent;
  opened = out.opened;
  note = out.note;
  alarm = out.alarm;
}

abbrev pub line_out : Line (List ℕ) → lines.Line
line_out l = record {
  step = l.step;
  who = l.who;
  answer = l.answer;
  sent = l.sent;
  opened = l.opened;
  note = option_map note_out l.note;
  alarm = l.alarm;
}
