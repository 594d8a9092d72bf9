-- The network: all actors, every record ever sent, and what one event does. Any record may be delivered at any later time,
-- again, or never; nothing orders the events.
use Rattle.std.specs.Prelude.{ℕ, ◌+◌, ◌-◌, ◌==◌, ◌&&◌, nat_lt, Bool, true, false, ℤ, pos, negsuc, List, [], ◌∷◌, ◌++◌, length, map, filter, find, Option, Some, None, slice_get, Result, Err}
use Rattle.std.specs.{List.position_from, Str.bytes_eq}
use Rattle.alg_choice.specs.declared.caps.Caps.{Caps}
use Rattle.rec_base.specs.declared.faults.RecFault.{RecFault}
use Rattle.lte_events.specs.{declared.addresses.Address.Address, declared.answers.Answer.Answer, declared.classes.Class.Class, declared.events.Event.Event, declared.lines.Who.Who}
use Rattle.lte_events.specs.Class.{class_of, same_class, told_in}
use Rattle.lte_events.specs.declared.answers.Answer.TheVariants.{Done, NoUe, NoRecord, Sent, RepeatedRoot}
use Rattle.key_model.specs.{Derivation.Derivation, Reading.Reading}
use Rattle.s1x2_rec.specs.Content.{Content}
use Rattle.lte_machine.specs.Wire.{KeyUse, Outgoing, uses_of}
use Rattle.lte_machine.specs.Opening.{Opening, Outcome, Opened}
use Rattle.lte_machine.specs.Reply.{Note, Made, Tried, Took, Reply, only}
use Rattle.lte_machine.specs.Ladder.{RowOrigin, OfRoot, Of, ladder_of, root_row}
use Rattle.lte_machine.specs.PhoneState.{Phone, PhoneInput, PhoneAuth, PhoneActs, PhoneNasPdu, PhoneAirPdu}
use Rattle.lte_machine.specs.PhoneStep.{phone_step, phone_opens, phone_pdu_in}
use Rattle.lte_machine.specs.StationState.{Station, StationInput, StationActs, AirPdu, StationRecord, OnS1, OnX2}
use Rattle.lte_machine.specs.StationStep.{station_step, station_opens, station_pdu_in}
use Rattle.lte_machine.specs.CoreState.{Core, CoreInput, CoreAuth, CoreActs, CoreNasPdu, CoreRecord}
use Rattle.lte_machine.specs.CoreStep.{core_step, core_opens, core_pdu_in}

-- who holds a key
pub data Holder : Type 0 where
  AtPhone : Holder
  AtCore : Holder
  AtStation : ℕ → Holder

pub record Holding (K : Type 0) : Type 0 where
  pub holder : Holder
  pub key : K

-- how a machine reads keys K and chain numbers C, and what it keeps S of a record that was sent
pub record Machine (K C S : Type 0) : Type 0 where
  pub reading : Reading K C
  -- the KASME of an authentication: its number, and its octets
  pub root : ℕ → List ℕ → K
  pub keep : Option (Outgoing K C) → Option S
  -- of what is kept: the octets, the address, and the record on S1 or X2 as it reads
  pub octets : S → List ℕ
  pub address : S → Address
  pub content : S → Result (Content K C) RecFault
  -- the integrity use of what came, if it was sealed
  pub sender : Option S → Option (KeyUse K)
  -- how octets open, and what came with them if they were sent
  pub opener : Opening K → List ℕ → Option S → Outcome

-- all actors and all that was
pub record World (K C S : Type 0) : Type 0 where
  -- how many events there were
  pub events : ℕ
  -- the phone
  pub phone : Phone K C
  -- the core
  pub core : Core K C
  -- the stations
  pub stations : List (Station K C)
  -- the records sent, in order
  pub sent : List S
  -- what they were sealed and ciphered under
  pub uses : List (KeyUse K)
  -- the KASMEs and the derivations, in order
  pub history : List (RowOrigin K)
  -- who held which key
  pub held : List (Holding K)
  -- what was made for each air address
  pub made : List (Made K C)
  -- what each attempt was opened under
  pub tried : List (Tried K C)
  -- what the phone took
  pub took : List (Took K C)

-- the report of one event
pub record Line (K : Type 0) : Type 0 where
  -- the number of the event
  pub step : ℕ
  -- the actor, or the network
  pub who : Who
  -- its answer
  pub answer : Answer
  -- the record sent, by its number and class
  pub sent : Option (ℕ × Class)
  -- the text opened
  pub opened : Option (List ℕ)
  -- the key that it came to
  pub note : Option (Note K)
  -- whether capabilities differ (TS 33.401 7.2.4.2.2)
  pub alarm : Bool

-- one more of a list, if there is one
abbrev pub with_one : {A : Type 0} → Option A → List A → List A
with_one None xs = xs
with_one (Some x) xs = xs ++ x ∷ []

abbrev pub uses_in : {K C : Type 0} → Option (Outgoing K C) → List (KeyUse K)
uses_in None = []
uses_in (Some x) = uses_of x

-- the keys that an actor holds after a step: the one in the record that it read, and those that it derived
abbrev pub holds : {K : Type 0} → Holder → Option K → List (Derivation K) → List (Holding K)
holds holder None derived = map (λ d. record { holder = holder; key = d.out }) derived
holds holder (Some key) derived =
    record { holder = holder; key = key } ∷ map (λ d. record { holder = holder; key = d.out }) derived

-- the world with what a step gave out: the record, its uses, the derivations and the holders
abbrev pub world_with : {K C S : Type 0} → Machine K C S → World K C S → Holder → Reply K C → World K C S
world_with m w holder reply = record w {
  events = w.events + 1;
  sent = with_one (m.keep reply.sent) w.sent;
  uses = w.uses ++ uses_in reply.sent;
  history = w.history ++ map Of reply.derived;
  held = w.held ++ holds holder reply.received reply.derived;
}

-- the number of the record that a step sent, with its interface
abbrev pub sent_line : {K C S : Type 0} → Machine K C S → World K C S → Option S → Option (ℕ × Class)
sent_line m w None = None
sent_line m w (Some x) = Some (length w.sent, class_of (m.address x))

abbrev pub line_of : {K C S : Type 0} → Machine K C S → World K C S → Who → Reply K C → Line K
line_of m w actor reply = record {
  step = w.events;
  who = actor;
  answer = reply.answer;
  sent = sent_line m w (m.keep reply.sent);
  opened = reply.opened;
  note = reply.note;
  alarm = reply.alarm;
}

-- a step of an actor, told and kept
abbrev pub phone_after : {K C S : Type 0} → Machine K C S → World K C S → Phone K C × Reply K C → World K C S × Line K
phone_after m w d = (
  record (world_with m w AtPhone d.1) { phone = d.0; took = with_one d.1.took w.took },
  line_of m w Who.Phone d.1,
)

abbrev pub core_after : {K C S : Type 0} → Machine K C S → World K C S → Core K C × Reply K C → World K C S × Line K
core_after m w d = (record (world_with m w AtCore d.1) { core = d.0 }, line_of m w Who.Core d.1)

abbrev pub put_if : {K C : Type 0} → Bool → Station K C → Station K C → Station K C
put_if true new old = new
put_if false new old = old

-- the stations with a new state of one of them
abbrev pub put_station : {K C : Type 0} → ℕ → Station K C → List (Station K C) → List (Station K C)
put_station id new [] = []
put_station id new (s ∷ ss) = put_if (s.id == id) new s ∷ put_station id new ss

abbrev pub station_after : {K C S : Type 0} → Machine K C S → World K C S → ℕ → Station K C × Reply K C → World K C S × Line K
station_after m w id d = (
  record (world_with m w (AtStation id) d.1) {
    stations = put_station id d.0 w.stations;
    made = with_one d.1.made w.made;
    tried = with_one d.1.tried w.tried;
  },
  line_of m w (Who.Station id) d.1,
)

-- an event that reaches no actor
abbrev pub by_world : {K C S : Type 0} → Machine K C S → World K C S → Answer → World K C S × Line K
by_world m w answer = (record w { events = w.events + 1 }, line_of m w Who.World (only answer))

abbrev pub phone_turn : {K C S : Type 0} → Machine K C S → World K C S → PhoneInput K → Option S → World K C S × Line K
phone_turn m w input came =
    let outcome = m.opener (phone_opens m.reading w.phone input) (phone_pdu_in input) came in
    phone_after m w (phone_step m.reading w.phone input outcome)

abbrev pub core_turn : {K C S : Type 0} → Machine K C S → World K C S → CoreInput K C → Option S → World K C S × Line K
core_turn m w input came =
    let outcome = m.opener (core_opens m.reading w.core input) (core_pdu_in input) came in
    core_after m w (core_step m.reading w.core input outcome)

abbrev pub station_of_id : {K C : Type 0} → ℕ → List (Station K C) → Option (Station K C)
station_of_id id stations = find (λ s. s.id == id) stations

abbrev pub turn_of : {K C S : Type 0} → Machine K C S → World K C S → ℕ → StationInput K C → Option S → Option (Station K C) → World K C S × Line K
turn_of m w id input came None = by_world m w NoUe
turn_of m w id input came (Some s) =
    let outcome = m.opener (station_opens m.reading s input) (station_pdu_in input) came in
    station_after m w id (station_step m.reading s input outcome)

abbrev pub station_turn : {K C S : Type 0} → Machine K C S → World K C S → ℕ → StationInput K C → Option S → World K C S × Line K
station_turn m w id input came = turn_of m w id input came (station_of_id id w.stations)

-- an authentication, of phone and core together: both hold the KASME (TS 33.401 6.1.1)
abbrev pub authenticated : {K C S : Type 0} → Machine K C S → World K C S → ℕ → K → Caps → World K C S × Line K
authenticated m w ksi root caps = (
  record w {
    events = w.events + 1;
    phone = (phone_step m.reading w.phone (PhoneAuth ksi root) (Opened [])).0;
    core = (core_step m.reading w.core (CoreAuth ksi root caps) (Opened [])).0;
    history = w.history ++ OfRoot root ∷ [];
    held = w.held ++ record { holder = AtPhone; key = root } ∷ record { holder = AtCore; key = root } ∷ [];
  },
  line_of m w Who.Both (only Done),
)

abbrev pub auth_unless : {K C S : Type 0} → Machine K C S → World K C S → ℕ → K → Caps → Option ℕ → World K C S × Line K
auth_unless m w ksi root caps None = authenticated m w ksi root caps
auth_unless m w ksi root caps (Some row) = by_world m w (RepeatedRoot row)

-- how many roots there are so far
abbrev pub is_root_row : {K : Type 0} → RowOrigin K → Bool
is_root_row (OfRoot key) = true
is_root_row (Of d) = false

abbrev pub next_root : {K C S : Type 0} → World K C S → ℕ
next_root w = length (filter is_root_row w.history)

-- the row of the ladder so far that is this root
abbrev pub known_root : {K C S : Type 0} → Machine K C S → World K C S → K → Option ℕ
known_root m w root = root_row m.reading.same root (ladder_of m.reading.same w.history).rows

-- a record that comes to its address
abbrev pub content_in : {K C S : Type 0} → Machine K C S → Option S → Result (Content K C) RecFault
content_in m None = Err RecFault.Short
content_in m (Some x) = m.content x

abbrev pub arrives : {K C S : Type 0} → Machine K C S → World K C S → Address → List ℕ → Option S → World K C S × Line K
arrives m w Address.PhoneNas pdu came = phone_turn m w (PhoneNasPdu pdu) came
arrives m w (Address.Phone station air bearer) pdu came = phone_turn m w (PhoneAirPdu station air bearer pdu) came
arrives m w Address.CoreNas pdu came = core_turn m w (CoreNasPdu pdu) came
arrives m w Address.CoreS1 pdu came = core_turn m w (CoreRecord (content_in m came)) came
arrives m w (Address.StationAir station air bearer) pdu came = station_turn m w station (AirPdu air bearer pdu) came
arrives m w (Address.StationS1 station) pdu came = station_turn m w station (StationRecord OnS1 (content_in m came)) came
arrives m w (Address.StationX2 station) pdu came = station_turn m w station (StationRecord OnX2 (content_in m came)) came

abbrev pub newest_if : {S : Type 0} → Bool → ℕ → List S → Option S
newest_if true i sent = slice_get sent i
newest_if false i sent = None

-- a record by its number: from the front, or with -1 for the newest
abbrev pub record_at : {S : Type 0} → ℤ → List S → Option S
record_at (pos i) sent = slice_get sent i
record_at (negsuc i) sent = newest_if (nat_lt i (length sent)) (length sent - 1 - i) sent

abbrev pub delivery : {K C S : Type 0} → Machine K C S → World K C S → Option S → World K C S × Line K
delivery m w None = by_world m w NoRecord
delivery m w (Some x) = arrives m w (m.address x) (m.octets x) (Some x)

-- whether octets of an interface are those of a record, by what tells it from others
abbrev pub is_sent : {K C S : Type 0} → Machine K C S → Class → List ℕ → S → Bool
is_sent m class octets x = same_class class (class_of (m.address x)) && bytes_eq (told_in class octets) (told_in class (m.octets x))

abbrev pub injected : {K C S : Type 0} → Machine K C S → World K C S → Address → List ℕ → Option ℕ → World K C S × Line K
injected m w to octets None = arrives m w to octets None
injected m w to octets (Some record_number) = by_world m w (Sent record_number)

-- one event
abbrev pub happens : {K C S : Type 0} → Machine K C S → World K C S → Event → World K C S × Line K
happens m w (Event.Auth ksi octets caps) =
    let root = m.root (next_root w) octets in auth_unless m w ksi root caps (known_root m w root)
happens m w (Event.Phone act) = phone_turn m w (PhoneActs act) None
happens m w (Event.Station id act) = station_turn m w id (StationActs act) None
happens m w (Event.Core act) = core_turn m w (CoreActs act) None
happens m w (Event.Deliver i) = delivery m w (record_at i w.sent)
happens m w (Event.Inject to octets) =
    injected m w to octets (position_from (is_sent m (class_of to) octets) 0 w.sent)
