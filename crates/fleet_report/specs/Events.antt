-- What is told of one event of a fleet.
use Rattle.std.specs.Prelude.{◌≡◌, ℕ, ◌<◌, None, [], ◌∷◌, ◌++◌, length, Result, Ok, Err}
use Rattle.lte_events.specs.declared.events.Event.{Event}
use Rattle.run_report.specs.{declared.endings.Ending.Ending, Events.HasCounts, Report.Report}
use Rattle.run_report.specs.declared.endings.Ending.TheVariants.{Done, Chance}
use Rattle.fleet_world.specs.{declared.faults.FleetFault.FleetFault, declared.lines.FleetLine.FleetLine, Answers.own_at}
use Rattle.fleet_world.specs.declared.faults.FleetFault.TheVariants as fault
use Rattle.fleet_world.specs.Fleets.{Fleeted, owns_in, answer_of}
use Rattle.fleet_report.specs.Lines.{output_text, answer_output}

-- an event of one of so many phones
abbrev pub IsOfPhone : ℕ → ℕ × Event → Type 0
IsOfPhone phones x = x.0 < phones

-- how the report of an answer ends
abbrev pub answer_ends : Result FleetLine FleetFault → Ending
answer_ends (Ok told) = Done
answer_ends (Err ended) = Chance

-- and that report, by the step among all events and among the phone's own
abbrev pub answer_report : ℕ → ℕ → Result FleetLine FleetFault → Report
answer_report step own answer = record { text = output_text (answer_output step own answer); ends = answer_ends answer }

-- COUNTs of 32 bits
abbrev pub HasItsCounts : FleetFault → Type 0
HasItsCounts (fault.Chance p proof) = HasCounts proof
HasItsCounts other = Unit {0}

-- the line for an event, and how the report of it ends
unfoldable pub event_report : Fleeted → ℕ → Event → Report
event_report v p e = answer_report (length v.journal) (length (own_at (owns_in v) p)) (answer_of v p e)

-- the event happened to the phone, and ended nothing
pub record Takes (v : Fleeted) (p : ℕ) (e : Event) (after : Fleeted) : Type 0 where
  pub over : after.over ≡ None
  pub setup : after.setup ≡ v.setup
  pub journal : after.journal ≡ v.journal ++ (p, e) ∷ []
  pub worlds : length after.worlds ≡ length v.worlds
