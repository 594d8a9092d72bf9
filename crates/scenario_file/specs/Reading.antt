-- What a text says: its scenario, or the first fault.
use Rattle.std.specs.Prelude.{ℕ, nat_lt, if◌then◌else◌, List, [], ◌∷◌, ◌++◌, length, Option, Some, None, Result, Ok, Err}
use Rattle.std.specs.{Option.ok_or, Str.is_utf8}
use Rattle.toml.specs.Data.{Data, Items, no_items, item, Members, as_table}
use Rattle.toml.specs.Parse.{parse_document}
use Rattle.lte_events.specs.{Scenario.most_events, declared.events.Event.Event, declared.setups.Setup.Setup}
use Rattle.scenario_file.specs.{declared.fields.Field.TheVariants.Step as StepField, declared.faults.Refusal.Refusal, declared.faults.ScenarioFault.ScenarioFault, declared.kept.Step.Step, declared.setup.Start.Start, declared.systems.System.System, Setup.start_of, Steps.step_of}
use Rattle.scenario_file.specs.declared.faults.Refusal.TheVariants as refusal
use Rattle.scenario_file.specs.declared.faults.ScenarioFault.TheVariants.{NotToml, Missing, Wrong, Unknown, TooMany}
use Rattle.scenario_file.specs.Values.{◌>>=◌, or_default, tables_in, count_of}
use Rattle.scenario_file.specs.declared.systems.System.TheVariants as system

-- the fault of a refused table: of a step by its number, or before the steps
abbrev pub fault_at : Option ℕ → Refusal → ScenarioFault
fault_at step (refusal.Missing field) = Missing step field
fault_at step (refusal.Wrong field) = Wrong step field
fault_at step refusal.Unknown = Unknown step

abbrev pub at_place : {A : Type 0} → Option ℕ → Result A Refusal → Result A ScenarioFault
at_place step (Ok x) = Ok x
at_place step (Err refusal) = Err (fault_at step refusal)

-- the tables of the steps, of which there may be none
unfoldable pub steps_of : Members → Result Items Refusal
steps_of document = or_default no_items tables_in StepField document

-- what a step says; it is named by its number where it is refused
abbrev pub step_in : System → Start → Data → Result Step Refusal
step_in system start value = ok_or (as_table value) (refusal.Wrong StepField) >>= λ table. step_of system start table

abbrev pub step_at : System → Start → ℕ → Data → Result Step ScenarioFault
step_at system start n value = at_place (Some n) (step_in system start value)

-- what is kept of the steps, behind what is kept of those read so far
abbrev pub kept_from : {E : Type 0} → (Step → E) → System → Start → List E → Items → Result (List E) ScenarioFault
kept_from kept system start so_far no_items = Ok so_far
kept_from kept system start so_far (item value values) =
    step_at system start (length so_far) value >>= λ step. kept_from kept system start (so_far ++ kept step ∷ []) values

-- at most 200,000 steps
abbrev pub if_few : Items → Result (Unit {0}) ScenarioFault
if_few values = if nat_lt most_events (count_of values) then Err TooMany else Ok tt

-- what a document says before its steps: what a system of this kind starts with, and the tables of its steps
abbrev pub before_steps : System → Members → Result (Start × Items) ScenarioFault
before_steps system document = do
  start ← at_place None (start_of system document)
  values ← at_place None (steps_of document)
  few ← if_few values
  Ok (start, values)

-- what a document says of a system of this kind: what it starts with, and what is kept of each step
unfoldable pub whole_of : {E : Type 0} → (Step → E) → System → Members → Result (Start × List E) ScenarioFault
whole_of kept system document = do
  start ← at_place None (start_of system document)
  values ← at_place None (steps_of document)
  few ← if_few values
  steps ← kept_from kept system start [] values
  Ok (start, steps)

-- the document that a text is, if it is one
unfoldable pub document_of : List ℕ → Option Members
document_of text = if is_utf8 text then parse_document text else None

abbrev pub text_of : {E : Type 0} → (Step → E) → System → List ℕ → Result (Start × List E) ScenarioFault
text_of kept system text = ok_or (document_of text) NotToml >>= whole_of kept system

-- what a text says of one phone and one core: the setup and the events
unfoldable pub reading_of : List ℕ → Result (Setup × List Event) ScenarioFault
reading_of text = do
  whole ← text_of (λ step. step.event) system.Single text
  Ok (whole.0.setup, whole.1)

-- of a fleet: how many phones too, and the phone of each event
unfoldable pub fleet_reading_of : List ℕ → Result (Setup × ℕ × List (ℕ × Event)) ScenarioFault
fleet_reading_of text = do
  whole ← text_of (λ step. (step.phone, step.event)) system.Fleet text
  Ok (whole.0.setup, whole.0.phones, whole.1)

-- of two cores: the core of each station too, by the station's number
unfoldable pub two_reading_of : List ℕ → Result (Setup × List ℕ × List Event) ScenarioFault
two_reading_of text = do
  whole ← text_of (λ step. step.event) system.TwoCores text
  Ok (whole.0.setup, whole.0.core_of, whole.1)
