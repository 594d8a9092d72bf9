-- The report of a fleet: a line for each event up to the first coincidence, and where there is none, the end of each phone's own
-- report, phone after phone.
use Rattle.std.specs.Prelude.{ℕ, suc, ◌+◌, List, [], ◌∷◌, ◌++◌, length, Result, Ok, Err}
use Rattle.lte_events.specs.{declared.events.Event.Event, declared.setups.Setup.Setup}
use Rattle.run_report.specs.{declared.endings.Ending.Ending, Report.Report}
use Rattle.run_report.specs.declared.endings.Ending.TheVariants.{Done, Chance}
use Rattle.fleet_world.specs.{declared.faults.FleetFault.FleetFault, declared.lines.FleetLine.FleetLine, Phones.phone_run}
use Rattle.fleet_world.specs.Answers.{answer, own_at, owns_after, no_events}
use Rattle.fleet_report.specs.Lines.{Output, texts, answer_output, end_outputs}

-- the lines, and how they end
pub record Outputs : Type 0 where
  pub lines : List Output
  pub ends : Ending

-- the ends of the phones from phone p on, by their own events
abbrev pub ends_from : Setup → ℕ → List (List Event) → List Output
ends_from setup p [] = []
ends_from setup p (own ∷ owns) = end_outputs p (length own) (phone_run setup own) ++ ends_from setup (p + 1) owns

-- an answer, and what comes behind it if it is a line
abbrev pub goes_on : Result FleetLine FleetFault → Output → Outputs → Outputs
goes_on (Ok told) out rest = record { lines = out ∷ rest.lines; ends = rest.ends }
goes_on (Err ended) out rest = record { lines = out ∷ []; ends = Chance }

-- from this step on, where these are the phones' own events before
abbrev pub outputs_from : Setup → List (List Event) → ℕ → List (ℕ × Event) → Outputs
outputs_from setup owns step [] = record { lines = ends_from setup 0 owns; ends = Done }
outputs_from setup owns step (x ∷ xs) =
    goes_on (answer setup owns x.0 x.1) (answer_output step (length (own_at owns x.0)) (answer setup owns x.0 x.1))
    (outputs_from setup (owns_after setup owns x.0 x.1) (suc step) xs)

abbrev pub report_from : Setup → List (List Event) → ℕ → List (ℕ × Event) → Report
report_from setup owns step events =
    record { text = texts (outputs_from setup owns step events).lines; ends = (outputs_from setup owns step events).ends }

-- the report of the written machine's runs of each phone's own events, printed in values
unfoldable pub fleet_report_of : Setup → ℕ → List (ℕ × Event) → Report
fleet_report_of setup phones events = report_from setup (no_events phones) 0 events
