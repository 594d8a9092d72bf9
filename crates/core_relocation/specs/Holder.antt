-- Which of two cores holds the context of the phone. A station belongs to one core and sends it its records on S1; an S1 handover
-- to a station of the other core hands the context on (TS 36.413 8.4, TS 23.401 5.5.1.2.2).
use Rattle.std.specs.Prelude.{ℕ, ◌==◌, ◌&&◌, ◌||◌, Bool, true, false, List, [], ◌∷◌, ◌++◌, slice_get, slice_index, Option, Some, None, option_map, Result, Ok, Err}
use Rattle.annex_a_keys.specs.Cell.{Place}
use Rattle.rec_base.specs.declared.faults.RecFault.{RecFault}
use Rattle.lte_events.specs.{declared.acts.CoreAct.CoreAct, declared.addresses.Address.Address, declared.answers.Answer.Answer, declared.answers.Answer.TheVariants.Done, declared.classes.Class.Class, declared.events.Event.Event, declared.inputs.ActorIn.ActorIn, declared.inputs.CoreIn.CoreIn, declared.replies.ActorOut.ActorOut, declared.lines.Line.Line, declared.lines.Who.Who, Site.station_of}
use Rattle.s1x2_rec.specs.{Content.Content, Content.content_of, declared.records.CoreRecord.CoreRecord, Reading.read_core}
use Rattle.s1x2_rec.specs.Fields.{Fields, HandoverRequired, HandoverNotify, HandoverCancel}
use Rattle.lte_machine.specs.{Machines.Kept, World.World, World.record_at}
use Rattle.core_relocation.specs.{declared.cores.Cores.Cores, declared.cores.Held.Held, declared.cores.Relocation.Relocation, declared.senders.Sender.Sender}

-- WHO SENT WHAT

-- the senders with the one that a line tells, if a record was sent
abbrev pub sent_by : Who → Option (ℕ × Class) → List Sender
sent_by who None = []
sent_by who (Some sent) = record { who = who; class = sent.1 } ∷ []

abbrev pub senders_after : List Sender → Line → List Sender
senders_after senders line = senders ++ sent_by line.who line.sent

-- the sender at a place, if it is one
abbrev pub at_place : List Sender → Option ℕ → Option Sender
at_place senders None = None
at_place senders (Some k) = slice_get senders k

-- a record that a station sent on S1 goes to a core
abbrev pub on_s1 : Who → Class → Option ℕ
on_s1 (Who.Station id) Class.S1 = Some id
on_s1 who class = None

abbrev pub station_sending : Option Sender → Option ℕ
station_sending None = None
station_sending (Some sender) = on_s1 sender.who sender.class

-- the station of which a record on S1 is delivered to a core, if the event does that
abbrev pub station_in : List Sender → Event → Option ℕ
station_in senders (Event.Deliver i) = station_sending (record_at i senders)
station_in senders other = None

-- WHICH CORE

-- the core of a station, and that of the station that has a cell
abbrev pub core_at : List ℕ → ℕ → ℕ
core_at core_of station = slice_index core_of station

abbrev pub core_of_cell : Cores → Place → Option ℕ
core_of_cell c cell = option_map (core_at c.core_of) (station_of cell c.cells)

-- the core that acts: the station's, and else the holder
abbrev pub acting : Cores → Option ℕ → ℕ
acting c (Some station) = core_at c.core_of station
acting c None = c.held.holder

-- WHICH CORE DOES NOT HOLD IT

-- the core to which the context is to go
abbrev pub is_next : Option Relocation → ℕ → Bool
is_next None core = false
is_next (Some open_one) core = open_one.core == core

abbrev pub unless : Bool → ℕ → Option ℕ
unless true core = None
unless false core = Some core

-- a core takes the records of its stations where it is the holder or the one to which the context is to go
abbrev pub away_from : Held → ℕ → Option ℕ
away_from held core = unless ((core == held.holder) || is_next held.next core) core

-- and only the holder connects the phone
abbrev pub away_at : Held → Option ℕ → Option ℕ
away_at held None = None
away_at held (Some core) = unless (core == held.holder) core

abbrev pub away_in : Cores → Event → Option ℕ
away_in c (Event.Core (CoreAct.Connect cell)) = away_at c.held (core_of_cell c cell)
away_in c other = None

-- the core that an event asks, where it does not hold the context
abbrev pub away : Cores → Option ℕ → Event → Option ℕ
away c (Some station) e = away_from c.held (core_at c.core_of station)
away c None e = away_in c e

-- HOW IT MOVES

-- no relocation is open
abbrev pub closed : Held → Held
closed held = record held { next = None }

-- a handover to a cell of the holder closes a relocation, and one to a cell of the other core opens one
abbrev pub opened : Bool → ℕ → ℕ → ℕ → Held → Held
opened true core source attempt held = closed held
opened false core source attempt held = record held { next = Some (record { core = core; source = source; attempt = attempt }) }

abbrev pub required : Option ℕ → ℕ → ℕ → Held → Held
required None source attempt held = held
required (Some core) source attempt held = opened (core == held.holder) core source attempt held

-- the attempt of the open relocation is cancelled
abbrev pub is_open : Option Relocation → ℕ → ℕ → Bool
is_open None source attempt = false
is_open (Some open_one) source attempt = (open_one.source == source) && (open_one.attempt == attempt)

abbrev pub closed_if : Bool → Held → Held
closed_if true held = closed held
closed_if false held = held

-- by a record on S1 that this core took
abbrev pub moved_by : Cores → ℕ → Fields → Held
moved_by c core (HandoverRequired conn station attempt cell) = required (core_of_cell c cell) station attempt c.held
moved_by c core (HandoverCancel conn source attempt cell) = closed_if (is_open c.held.next source attempt) c.held
moved_by c core (HandoverNotify conn station cell) = record { holder = core; next = None }
moved_by c core other = c.held

abbrev pub moved_on : Cores → ℕ → Option Fields → Held
moved_on c core None = c.held
moved_on c core (Some fields) = moved_by c core fields

-- by an act of the core: a new connection, and the end of one
abbrev pub moved_in : Cores → CoreAct → Held
moved_in c (CoreAct.Connect cell) = closed c.held
moved_in c CoreAct.Release = closed c.held
moved_in c other = c.held

-- by an event that is done, with the record on S1 that comes to this core in it, if one does
abbrev pub moved : Cores → ℕ → Event → Option Fields → Held
moved c core (Event.Deliver i) fields = moved_on c core fields
moved c core (Event.Core act) fields = moved_in c act
moved c core (Event.Auth ksi kasme caps) fields = c.held
moved c core (Event.Phone act) fields = c.held
moved c core (Event.Station id act) fields = c.held
moved c core (Event.Inject to octets) fields = c.held

abbrev pub if_done : Answer → Held → Held → Held
if_done Done then_it else_it = then_it
if_done other then_it else_it = else_it

-- where the context is after an event with this line
abbrev pub held_after : Cores → ℕ → Event → Option Fields → Line → Held
held_after c core e fields line = if_done line.answer (moved c core e fields) c.held

-- WHAT COMES TO A CORE

abbrev pub fields_of : CoreRecord → Fields
fields_of r = (content_of r).fields

abbrev pub fields_read : Result (Content (List ℕ) ℕ) RecFault → Option Fields
fields_read (Ok content) = Some content.fields
fields_read (Err fault) = None

-- a record at its address
abbrev pub fields_to : Address → List ℕ → Option Fields
fields_to Address.CoreS1 octets = fields_read (read_core octets)
fields_to other octets = None

abbrev pub fields_at : Option Kept → Option Fields
fields_at None = None
fields_at (Some x) = fields_to x.to x.octets

-- the record on S1 that an event delivers to a core, as it reads
abbrev pub fields_in : World (List ℕ) ℕ Kept → Event → Option Fields
fields_in w (Event.Deliver i) = fields_at (record_at i w.sent)
fields_in w other = None

-- the same, as the inputs of an event say it
abbrev pub fields_from : ActorIn → Option Fields
fields_from (ActorIn.Core (CoreIn.S1 octets)) = fields_read (read_core octets)
fields_from other = None

-- and the replies that are kept with their inputs
abbrev pub fields_given : List (ActorIn × ActorOut) → Option Fields
fields_given [] = None
fields_given (reply ∷ rest) = fields_from reply.0
