-- What a change of the key and a completed handover leave: preparations, connection numbers and COUNTs.
use Rattle.std.specs.Prelude.{◌≡◌, ℕ, List, [], ◌∷◌, ◌++◌, reverse, Option, Some, None, option_map, Ok}
use Rattle.std.proofs.Common.{refl}
use Rattle.rec_base.specs.{declared.uses.Dir.TheVariants.Down, declared.bearers.Bearer.TheVariants.Srb1, declared.ways.Way.Way}
use Rattle.rec_base.specs.declared.ways.Way.TheVariants.{Given, Completed}
use Rattle.lte_events.specs.{declared.acts.StationAct.StationAct, declared.answers.Answer.Answer, declared.events.Event.Event}
use Rattle.lte_events.specs.declared.answers.Answer.TheVariants.{Done, OldConnection, NotAddressed}
use Rattle.key_model.specs.Reading.{term_reading}
use Rattle.key_model.specs.Term.{Term, Root, Kenb, Star}
use Rattle.s1x2_rec.specs.Fields.{Fields, InitialContext, X2Request, ContextModification}
use Rattle.lte_machine.specs.Opening.{Outcome, Opened, open_octets}
use Rattle.lte_machine.specs.Run.{RunState, Running, Stopped, replay}
use Rattle.lte_machine.specs.StationState.{Station, StationInput, AirPdu, StationRecord, Interface, OnS1, OnX2, first_station}
use Rattle.lte_machine.specs.{StationStep.station_step, Wire.Outgoing, Wire.SealedRrc}
use Rattle.lte_machine.proofs.KeyChanges.{changed}
use Rattle.lte_machine.proofs.Scenario.{command, computing, intra, machine, newest, opening, place, s1, setup, start, toy, x2_to}

-- A STATION, INPUT BY INPUT

abbrev Input : Type 0
Input = StationInput Term ℕ × Outcome

abbrev keyed : Interface → Fields → Term → Input
keyed on fields key = (StationRecord on (Ok (record { fields = fields; key = Some (record { key = key; number = 0 }) })), Opened [])

-- the first PDU of SRB1 at an air address, that opens to this text
abbrev rrc : ℕ → List ℕ → Input
rrc air text = (AirPdu air Srb1 (0 ∷ 0 ∷ 0 ∷ 0 ∷ 0 ∷ []), Opened text)

abbrev Told : Type 0
Told = Answer × Option Way

abbrev run : Station Term ℕ → List Input → List Told
run s [] = []
run s (x ∷ xs) =
    let d = station_step term_reading s x.0 x.1 in (d.1.answer, option_map (λ n. n.way) d.1.note) ∷ run d.0 xs

abbrev says : Answer → Told
says answer = (answer, None)

abbrev notes : Way → Told
notes way = (Done, Some way)

-- two KASMEs, with the KeNB of each
abbrev kenb : ℕ → Term
kenb r = Kenb (Root r []) 0

-- a preparation for the phone stands at air address 2 when the key of its context is to change. A change under a number that
-- is not above the last is old; after one the old preparation is gone, and the phone is met at the new address alone
abbrev renews : List Input
renews =
    keyed OnS1 (InitialContext 1 (place 0) setup.caps) (kenb 0) ∷ rrc 1 (2 ∷ [])
    ∷ keyed OnX2 (X2Request 1 1 1 (place 0) setup.caps) (Star (kenb 0) 10 100)
    ∷ keyed OnS1 (ContextModification 1 1) (kenb 1) ∷ keyed OnS1 (ContextModification 1 2) (kenb 1)
    ∷ rrc 2 (4 ∷ []) ∷ rrc 4 (4 ∷ []) ∷ []

renewed : run (first_station 0 setup.cells setup.core_priority 1) renews ≡ (
    notes Given ∷ says Done ∷ notes Given ∷ says (OldConnection 1 1) ∷ notes Given
    ∷ says NotAddressed ∷ notes Completed ∷ [])
unfolding computing
renewed = refl

-- RUNS

abbrev ends : List Event → RunState Term ℕ (Outgoing Term ℕ)
ends events = replay (open_octets toy) machine start events

-- the number of the core's connection: a change of the key begins the next one
abbrev connection : RunState Term ℕ (Outgoing Term ℕ) → Option ℕ
connection (Running w) = option_map (λ link. link.conn) w.core.link
connection (Stopped coincidence) = None

first_number : connection (ends opening) ≡ Some 1
unfolding computing
first_number = refl

next_number : connection (ends changed) ≡ Some 2
unfolding computing
next_number = refl

-- the COUNT of the newest record, where a station sent it on an SRB
abbrev count_down : List (Outgoing Term ℕ) → Option ℕ
count_down (SealedRrc Down station air srb u e text ∷ sent) = Some u.count
count_down other = None

abbrev newest_count : RunState Term ℕ (Outgoing Term ℕ) → Option ℕ
newest_count (Running w) = count_down (reverse w.sent)
newest_count (Stopped coincidence) = None

-- a station sends RRC data on SRB1
abbrev data_from : ℕ → Event
data_from s = Event.Station s (StationAct.SendRrc Srb1 (1 ∷ []))

-- under the keys of the connection's start it is COUNT 1, after the command that started security
before_handover : newest_count (ends (opening ++ data_from 0 ∷ [])) ≡ Some 1
unfolding computing
before_handover = refl

-- COUNTs start at 0 after a handover within the station
after_intra : newest_count (ends (opening ++ intra 0 ∷ command 0 ∷ newest ∷ newest ∷ data_from 0 ∷ [])) ≡ Some 0
unfolding computing
after_intra = refl

-- after one over X2 and back, where the station's old context still stands
after_x2 : newest_count (ends (opening ++ x2_to 0 1 ++ x2_to 1 0 ++ data_from 0 ∷ [])) ≡ Some 0
unfolding computing
after_x2 = refl

-- after one over S1 and back
abbrev s1_to : ℕ → ℕ → List Event
s1_to s target = s1 s target ∷ newest ∷ newest ∷ newest ∷ newest ∷ command s ∷ newest ∷ newest ∷ newest ∷ []

after_s1 : newest_count (ends (opening ++ s1_to 0 1 ++ s1_to 1 0 ++ data_from 0 ∷ [])) ≡ Some 0
unfolding computing
after_s1 = refl

-- and after a change of the key
after_change : newest_count (ends (changed ++ data_from 0 ∷ [])) ≡ Some 0
unfolding computing
after_change = refl
