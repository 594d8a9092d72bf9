-- A fleet as a caller sees it: what it started with, the world of each phone, the events that it took, and the coincidence that ended it.
use Rattle.std.specs.Prelude.{◌≡◌, ℕ, ◌<◌, ◌≤◌, false, List, [], ◌∷◌, ◌++◌, length, map, replicate, Option, Some, None, Result, Ok, Err}
use Rattle.std.specs.List.{AllByRecursion as AllOf}
use Rattle.lte_events.specs.{declared.events.Event.Event, declared.setups.Setup.Setup, Ranges.IsEvent, Ranges.IsSetup, Scenario.most_events, Scenario.CanHappen}
use Rattle.lte_machine.specs.Run.{GoesOn}
use Rattle.lte_world.specs.Whole.{Whole}
use Rattle.fleet_world.specs.{declared.faults.FleetFault.FleetFault, declared.lines.FleetLine.FleetLine, Apart.IsEventOf, Apart.AllAnswered, Phones.phone_run}
use Rattle.fleet_world.specs.Answers.{answer, owns_of, no_events}

pub record Fleeted : Type 0 where
  pub setup : Setup
  -- the world of each phone, by its number
  pub worlds : List Whole
  -- the events that were answered by a line, each with its phone
  pub journal : List (ℕ × Event)
  -- the coincidence that ended it, if one did; its event is not in the journal
  pub over : Option FleetFault

-- how many phones there can be
abbrev pub most_phones : ℕ
most_phones = 256

-- the own events of its phones
abbrev pub owns_in : Fleeted → List (List Event)
owns_in v = owns_of v.setup (length v.worlds) v.journal

-- the world of a phone with these own events
abbrev pub world_of : Setup → List Event → Whole
world_of setup own = record { setup = setup; journal = own; over = None; ready = false }

-- a fleet to which nothing has happened
abbrev pub begun : Setup → ℕ → Fleeted
begun setup phones = record { setup = setup; worlds = replicate phones (world_of setup []); journal = []; over = None }

-- what is answered to an event of a phone; a coincidence for ever
abbrev pub unless_over : Option FleetFault → Result FleetLine FleetFault → Result FleetLine FleetFault
unless_over None answered = answered
unless_over (Some ended) answered = Err ended

abbrev pub answer_of : Fleeted → ℕ → Event → Result FleetLine FleetFault
answer_of v p e = unless_over v.over (answer v.setup (owns_in v) p e)

-- an event that was answered by a line is in the journal
abbrev pub journal_after : Result FleetLine FleetFault → List (ℕ × Event) → ℕ → Event → List (ℕ × Event)
journal_after (Ok told) journal p e = journal ++ (p, e) ∷ []
journal_after (Err ended) journal p e = journal

-- and one that was not ends the fleet
abbrev pub over_after : Result FleetLine FleetFault → Option FleetFault
over_after (Ok told) = None
over_after (Err ended) = Some ended

-- an event that can happen to a phone
pub record CanTake (v : Fleeted) (p : ℕ) (e : Event) : Type 0 where
  pub phone : p < length v.worlds
  pub can : CanHappen v.setup e
  pub few : length v.journal < most_events

-- WHAT HOLDS

-- the own events of a phone: each in range, not more than all events, and no coincidence among them
pub record IsOwn (setup : Setup) (most : ℕ) (events : List Event) : Type 0 where
  pub in_range : AllOf IsEvent events
  pub few : length events ≤ most
  pub goes : GoesOn (phone_run setup events)

-- the worlds are those of the phones' own events
pub record Stands (setup : Setup) (all : List Whole) (journal : List (ℕ × Event)) : Type 0 where
  pub begins : IsSetup setup
  pub few : length all ≤ most_phones
  pub worlds : all ≡ map (world_of setup) (owns_of setup (length all) journal)
  pub owns : AllOf (IsOwn setup (length journal)) (owns_of setup (length all) journal)
  -- and each event was answered by a line
  pub events : AllOf (IsEventOf (length all)) journal
  pub answered : AllAnswered setup (no_events (length all)) journal

abbrev pub StandsUnless : Option FleetFault → Setup → List Whole → List (ℕ × Event) → Type 0
StandsUnless None setup all journal = Stands setup all journal
StandsUnless (Some ended) setup all journal = Unit {0}
