-- The steps of a scenario, by its events and the lines that its run told of them.
use Rattle.std.specs.Prelude.{ℕ, nat_lt, List, [], ◌∷◌, ◌++◌, length, Option, Some, None, if◌then◌else◌}
use Rattle.lte_events.specs.{declared.acts.CoreAct.CoreAct, declared.acts.HoKind.HoKind, declared.acts.StationAct.StationAct, declared.classes.Class.Class, declared.events.Event.Event, declared.lines.Line.Line, declared.lines.Who.Who}
use Rattle.item_faults.specs.{declared.messages.Message.Message, declared.steps.Does.Does, declared.steps.Step.Step}
use Rattle.item_lines.specs.declared.lines.Told.{Told}
use Rattle.item_steps.specs.Messages.{message_of}
use Rattle.item_steps.specs.Records.{number_of, records_in, sender_of}

-- WHAT A STEP DOES

abbrev pub starts : HoKind → Does
starts HoKind.X2 = Does.StartX2
starts other = Does.Start

abbrev pub station_does : StationAct → Does
station_does (StationAct.Start kind cell) = starts kind
station_does StationAct.Command = Does.Command
station_does StationAct.Cancel = Does.Cancel
station_does other = Does.Act

abbrev pub core_does : CoreAct → Does
core_does (CoreAct.Connect cell) = Does.Connect
core_does other = Does.Act

-- a delivery, by the step that sent its record, if one did by then
abbrev pub delivers : Option ℕ → Does
delivers None = Does.Nothing
delivers (Some of) = Does.Delivers of

-- behind steps with these lines
abbrev pub does_of : List Told → Event → Does
does_of before (Event.Deliver i) = delivers (sender_of before (number_of (records_in before) i))
does_of before (Event.Station id act) = station_does act
does_of before (Event.Core act) = core_does act
does_of before other = Does.Act

-- WHO TAKES IT: a station, one of eight, where the line names one
abbrev pub one_of_eight : ℕ → Option ℕ
one_of_eight id = (if nat_lt id 8 then Some id else None)

abbrev pub station_in : Who → Option ℕ
station_in (Who.Station id) = one_of_eight id
station_in other = None

-- WHAT IT SENDS, where the line says that a record was sent
abbrev pub sends_of : List Step → List Told → Event → Does → Line → Option (ℕ × Class) → Option Message
sends_of steps before e d l None = None
sends_of steps before e d l (Some sent) = Some (message_of steps before e d l sent.1)

-- THE STEP, behind these steps and their lines
abbrev pub step_by : List Step → List Told → Event → Does → Line → Step
step_by steps before e d l = record {
  number = length steps;
  does = d;
  station = station_in l.who;
  sends = sends_of steps before e d l l.sent;
}

abbrev pub next_step : List Step → List Told → Event → Told → Step
next_step steps before e t = step_by steps before e (does_of before e) t.line

-- ALL STEPS, one after the other
unfoldable pub steps_from : List Step → List Told → List Event → List Told → List Step
steps_from steps before [] told = steps
steps_from steps before (e ∷ es) [] = steps
steps_from steps before (e ∷ es) (t ∷ ts) = steps_from (steps ++ next_step steps before e t ∷ []) (before ++ t ∷ []) es ts

abbrev pub steps_of : List Event → List Told → List Step
steps_of events told = steps_from [] [] events told
