-- A run of items: what they come to in the run of the written machine.
use Rattle.std.specs.Prelude.{◌≡◌, ℕ, suc, List, map, take, slice_get, Option, Some, None, Result, Ok}
use Rattle.key_terms.specs.declared.proof.Proof.{Proof}
use Rattle.lte_events.specs.{Scenario.IsScenario, declared.events.Event.Event, declared.lines.Line.Line, declared.lines.Who.Who, declared.setups.Setup.Setup}
use Rattle.lte_machine.specs.BothRuns.{annex_b_terms, written_run, written_report, octet_run}
use Rattle.lte_machine.specs.{Carried.report_value, Ciphers.annex_b, Machines.Kept, Machines.written_machine, Opening.open_octets}
use Rattle.lte_machine.specs.Run.{RunState, Running, Stopped, event_report}
use Rattle.lte_properties.specs.Headline.{Headline}
use Rattle.lte_world.specs.Whole.{Whole, address_of, answer_of}
use Rattle.lte_world.specs.declared.faults.WorldFault.{WorldFault}
use Rattle.item_lines.specs.declared.lines.Told.{Told}
use Rattle.item_runs.specs.Coming.{Coming, nothing, coming_from}
use Rattle.items.specs.declared.Item.{Item}
use Rattle.item_runs.specs.declared.sent.Sent.{Sent}

-- what the written machine's run over terms tells of one event more, in values: a line or the coincidence
unfoldable pub told_written : Setup → List Event → Event → Result Line WorldFault
told_written setup events e = answer_of (report_value (event_report (open_octets annex_b_terms) (written_machine annex_b) (written_run setup events) e))

-- the address of who acted behind the last of these events, in that run in values
abbrev pub place_in : RunState (List ℕ) ℕ Kept → Who → Option (ℕ × ℕ)
place_in (Running w) who = address_of w who
place_in (Stopped coincidence) who = None

unfoldable pub place_of : Setup → List Event → Who → Option (ℕ × ℕ)
place_of setup events who = place_in (octet_run setup events) who

-- what items come to behind those that have come to this
abbrev pub going_on : Setup → List Event → List Item → Coming → Coming
going_on setup acts items c = coming_from (told_written setup) (place_of setup) acts items c

-- WHAT THESE ITEMS COME TO; its events are the list that `run` takes
abbrev pub coming_of : Setup → List Event → List Item → Coming
coming_of setup acts items = going_on setup acts items nothing

-- lines are what the written machine's run of the events tells, no more and no fewer
abbrev pub Tells : Setup → List Event → List Told → Type 0
Tells setup events told = map (λ r. answer_of (report_value r)) (written_report setup events) ≡ map (λ t. Ok t.line) told

-- and each has the address of who acted behind its event
abbrev pub Placed : Setup → List Event → List Told → Type 0
Placed setup events told = (k : ℕ) (t : Told) → slice_get told k ≡ Some t → t.at ≡ place_of setup (take (suc k) events) t.line.who

-- a run of items as a caller sees it
pub record Seen : Type 0 where
  pub setup : Setup
  pub coming : Coming

-- by its system, its lines, what was sent, and the coincidence
abbrev pub seen : Whole → List Told → List Sent → Option Proof → Seen
seen w told sent over = record {
  setup = w.setup;
  coming = record { events = w.journal; told = told; sent = sent; over = over };
}

-- what holds of it: its events are a scenario, and its lines are those of their run
pub record Stands (setup : Setup) (events : List Event) (told : List Told) : Type 0 where
  pub scenario : IsScenario setup events
  pub tells : Tells setup events told
  pub placed : Placed setup events told

-- WHAT HOLDS OF EVERY RUN OF ITEMS
pub record Promises (s : Seen) : Type 0 where
  -- its events are a scenario, as `run` takes it
  pub scenario : IsScenario s.setup s.coming.events
  -- its lines are those that the written machine's run of these events tells
  pub tells : Tells s.setup s.coming.events s.coming.told
  -- and the addresses of these lines are those of the phone and of the stations there
  pub placed : Placed s.setup s.coming.events s.coming.told
  -- and all that holds of every run holds of it
  pub headline : Headline s.setup s.coming.events
