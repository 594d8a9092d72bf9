-- How a worked scenario is computed: the machine over terms with stand-ins for MAC and keystream, event by event.
use Rattle.std.specs.Prelude.{ℕ, ◌+◌, ◌==◌, ◌&&◌, Bool, false, List, [], ◌∷◌, drop, pos, negsuc, replicate, Option, Some, None, option_map}
use Rattle.std.specs.Str.{bytes_eq}
use Rattle.alg_choice.specs.declared.algs.Eea.TheVariants.{Eea0, Eea2}
use Rattle.alg_choice.specs.{Bits.has_bit, Choice.choice_of, Choice.are_supported}
use Rattle.annex_a_keys.specs.Cell.{Place}
use Rattle.rec_base.specs.BigEndian.{number_at, number_of, field_at, octets_of}
use Rattle.rec_base.specs.declared.ways.Way.{Way}
use Rattle.rec_fields.specs.Field.{of_size, number_in, algs_at, caps_at, cell_at, rest_at}
use Rattle.rec_fields.specs.Form.{read_as}
use Rattle.lte_events.specs.{declared.acts.HoKind.HoKind, declared.acts.StationAct.StationAct, declared.acts.CoreAct.CoreAct, declared.answers.Answer.Answer, declared.classes.Class.Class, declared.events.Event.Event, declared.setups.FirstNcc.FirstNcc, declared.setups.Setup.Setup}
use Rattle.lte_events.specs.declared.answers.Answer.TheVariants.{Done, MacFails}
use Rattle.key_model.specs.{Least.least, HandoverTable.NumberedKey}
use Rattle.key_model.specs.Term.{Term, Root, Kenb, Nh, Star, Alg}
use Rattle.nas_count.specs.Estimate.{estimate_of}
use Rattle.nas_rec.specs.Reading.{read_nas}
use Rattle.nas_rec.specs.Spelling as nas_texts
use Rattle.pdcp_guard.specs.{Counts.in_32_bits, Drb.drb_count, Srb.srb_count}
use Rattle.rrc_rec.specs.Reading.{read_rrc}
use Rattle.rrc_rec.specs.Spelling as rrc_texts
use Rattle.s1x2_rec.specs.Fields.{Fields, kind_of}
use Rattle.lte_machine.specs.{Wire.Outgoing, Opening.open_octets, Opening.open_foreign, CoreChoice.core_header, PhoneChoice.header_for_phone, Machines.machine_over, World.Machine, World.Line}
use Rattle.lte_machine.specs.Ciphers.{Ciphers, nas_octets, srb_octets, drb_octets}
use Rattle.lte_machine.specs.Run.{RunState, Running, EventReport, Reported, Coincided, report, first_world}

-- a number by which the keys of a scenario differ
abbrev pub weight : Term → ℕ
weight (Root r octets) = 1 + r
weight (Kenb r n) = 2 + n + weight r
weight (Nh r t) = 3 + weight t
weight (Star t pci earfcn) = 1 + pci + weight t
weight (Alg t type id) = type + weight t

-- a MAC that tells uses apart by it and by COUNT and BEARER, and no keystream
abbrev pub toy : Ciphers Term
toy = record { mac = λ u text. u.count ∷ u.bearer ∷ weight u.key ∷ 7 ∷ []; crypt = λ e text. text }

-- a record on S1 or X2 by its kind alone: over terms nothing reads its octets
abbrev pub kinds : Fields → Option (NumberedKey Term ℕ) → List ℕ
kinds fields key = kind_of fields ∷ []

-- whether two keys are one, where roots are compared by their octets and nothing else collides
abbrev pub alike : Term → Term → Bool
alike (Root r octets) (Root s octets') = bytes_eq octets octets'
alike (Kenb r n) (Kenb s m) = alike r s && (n == m)
alike (Nh r t) (Nh s u) = alike r s && alike t u
alike (Star t pci earfcn) (Star u pci' earfcn') = alike t u && (pci == pci') && (earfcn == earfcn')
alike (Alg t type id) (Alg u type' id') = alike t u && (type == type') && (id == id')
alike t u = false

abbrev pub machine : Machine Term ℕ (Outgoing Term ℕ)
machine = machine_over alike toy kinds

-- station s has the cell of PCI 10 + s and EARFCN-DL 100 + s
abbrev pub place : ℕ → Place
place s = record { pci = 10 + s; earfcn = 100 + s }

-- two stations, and everywhere 128-EEA2 before EEA0
abbrev pub setup : Setup
setup = record {
  caps = record { eea = 0xa0; eia = 0x20 };
  core_priority = Eea2 ∷ Eea0 ∷ [];
  core_first = 1;
  core_first_ncc = FirstNcc.One;
  stations = record { id = 0; priority = Eea2 ∷ Eea0 ∷ []; first = 1 } ∷ record { id = 1; priority = Eea2 ∷ Eea0 ∷ []; first = 1 } ∷ [];
  cells = record { station = 0; cell = place 0 } ∷ record { station = 1; cell = place 1 } ∷ [];
}

abbrev pub start : RunState Term ℕ (Outgoing Term ℕ)
start = Running (first_world setup)

-- events
abbrev pub auth : ℕ → ℕ → Event
auth ksi octet = Event.Auth ksi (replicate 32 octet) (record { eea = 0xa0; eia = 0x20 })

-- the newest record, and a record by its number
abbrev pub newest : Event
newest = Event.Deliver (negsuc 0)

abbrev pub number : ℕ → Event
number i = Event.Deliver (pos i)

abbrev pub smc : Event
smc = Event.Core CoreAct.StartSmc

abbrev pub connect : ℕ → Event
connect s = Event.Core (CoreAct.Connect (place s))

abbrev pub x2_at : ℕ → Place → Event
x2_at s cell = Event.Station s (StationAct.Start HoKind.X2 cell)

abbrev pub x2 : ℕ → ℕ → Event
x2 s target = x2_at s (place target)

abbrev pub s1 : ℕ → ℕ → Event
s1 s target = Event.Station s (StationAct.Start HoKind.S1 (place target))

abbrev pub intra : ℕ → Event
intra s = Event.Station s (StationAct.Start HoKind.Intra (place s))

abbrev pub command : ℕ → Event
command s = Event.Station s StationAct.Command

abbrev pub cancel : ℕ → Event
cancel s = Event.Station s StationAct.Cancel

abbrev pub ask : ℕ → Event
ask s = Event.Station s StationAct.Ask

-- authentication, Security Mode, and a context at station 0: its security runs
abbrev pub opening : List Event
opening = auth 0 1 ∷ smc ∷ newest ∷ newest ∷ connect 0 ∷ newest ∷ newest ∷ newest ∷ []

-- an X2 handover to the Complete at the target
abbrev pub x2_to : ℕ → ℕ → List Event
x2_to s target = x2 s target ∷ newest ∷ newest ∷ command s ∷ newest ∷ newest ∷ []

-- an answer without its MACs, which are stand-ins
abbrev pub without_macs : Answer → Answer
without_macs (MacFails count wanted got) = MacFails count [] []
without_macs other = other

-- the answer, with the number of the record sent and its interface, NCC and way of the note, and the text
abbrev pub Brief : Type 0
Brief = Answer × Option (ℕ × Class) × Option (ℕ × Way) × Option (List ℕ)

abbrev pub brief : Line Term → Brief
brief l = (without_macs l.answer, l.sent, option_map (λ n. (n.ncc, n.way)) l.note, l.opened)

-- what is told, or that a coincidence ended the run
abbrev pub briefs : List (EventReport Term) → List (Option Brief)
briefs [] = []
briefs (Reported l ∷ reported) = Some (brief l) ∷ briefs reported
briefs (Coincided coincidence ∷ reported) = None ∷ briefs reported

abbrev pub told : List Event → List (Option Brief)
told events = briefs (report (open_octets toy) machine start events)

-- what a run computes with
unfoldable pub computing : Unit {0}
unfolding least estimate_of has_bit choice_of are_supported number_of field_at number_at octets_of of_size number_in
    algs_at caps_at cell_at rest_at read_as
    read_nas nas_texts.spelling_of read_rrc rrc_texts.spelling_of in_32_bits
    srb_count drb_count header_for_phone core_header open_octets open_foreign nas_octets srb_octets drb_octets
computing = tt

-- the answer, with NCC and way of the note
abbrev pub Short : Type 0
Short = Answer × Option (ℕ × Way)

abbrev pub shorts : List (Option Brief) → List Short
shorts [] = []
shorts (None ∷ xs) = shorts xs
shorts (Some b ∷ xs) = (b.0, b.2) ∷ shorts xs

-- what is told of the events after the first n
abbrev pub from_step : ℕ → List Event → List Short
from_step n events = drop n (shorts (told events))

abbrev pub done : Short
done = (Done, None)

abbrev pub notes : ℕ → Way → Short
notes ncc way = (Done, Some (ncc, way))

abbrev pub refuses : Answer → Short
refuses answer = (answer, None)
