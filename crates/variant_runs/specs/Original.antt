-- The scenario itself: its run, its steps and items, and what the probe finds behind it.
use Rattle.std.specs.Prelude.{◌≡◌, ℕ, zero, suc, ◌+◌, ◌≤◌, List, [], ◌∷◌, ◌++◌, length, All}
use Rattle.lte_events.specs.{Ranges.IsSetup, Scenario.CanHappen, declared.events.Event.Event, declared.setups.Setup.Setup, declared.setups.StationSetup.StationSetup}
use Rattle.items.specs.declared.Deed.TheVariants as deed
use Rattle.items.specs.declared.Item.{Item}
use Rattle.item_faults.specs.{Entries.most_steps, Laws.AreEntries, Steps.entries_of, Steps.senders_of, declared.entries.Entry.Entry, declared.steps.Step.Step}
use Rattle.item_lines.specs.declared.lines.Told.{Told}
use Rattle.item_outcomes.specs.Standing.{Standing}
use Rattle.item_probe.specs.{Acts.acts_of, Places.more_acts}
use Rattle.item_runs.specs.Course.{Seen, coming_of}
use Rattle.item_standing.specs.Standing.{standing_of}
use Rattle.item_steps.specs.Steps.{steps_of}

-- ITS ITEMS: each of so many events by its place, under the name of its step
abbrev pub item_at : ℕ → Item
item_at step = record { name = step; deed = deed.Act step; at_once = 0 }

unfoldable pub own_items : ℕ → List Item
own_items zero = []
own_items (suc step) = own_items step ++ item_at step ∷ []

-- THEIR RUN
abbrev pub run_of : Setup → List Event → List Item → Seen
run_of setup acts items = record { setup = setup; coming = coming_of setup acts items }

abbrev pub own_run : Setup → List Event → Seen
own_run setup events = run_of setup (acts_of setup events) (own_items (length events))

abbrev pub own_lines : Setup → List Event → List Told
own_lines setup events = (own_run setup events).coming.told

-- the first station serves where the probe's packet comes to none
abbrev pub first_station : List StationSetup → ℕ
first_station [] = 0
first_station (s ∷ ss) = s.id

-- WHAT ITS VARIANTS ARE MADE OF AND COMPARED WITH
pub record Original : Type 0 where
  -- what the system begins with
  pub setup : Setup
  -- the acts that its variants run over
  pub acts : List Event
  -- its steps
  pub steps : List Step
  -- what the probe finds behind it
  pub usual : Standing

abbrev pub an_original : Setup → List Event → List Step → Standing → Original
an_original setup acts steps usual = record { setup = setup; acts = acts; steps = steps; usual = usual }

abbrev pub original_of : Setup → List Event → Original
original_of setup events =
    an_original setup (acts_of setup events) (steps_of events (own_lines setup events))
    (standing_of (acts_of setup events) (length events) (first_station setup.stations) (own_run setup events))

-- what holds of it, and of what is kept beside it
pub record Stands (o : Original) (items : List Entry) (sending : List ℕ) : Type 0 where
  pub is_setup : IsSetup o.setup
  pub can_happen : All (CanHappen o.setup) o.acts
  -- its steps are few, and there is an act for each and for the probe
  pub few : length o.steps ≤ most_steps
  pub room : length o.steps + more_acts ≤ length o.acts
  -- its items, and the steps that send
  pub as_many : length items ≤ most_steps
  pub is_items : items ≡ entries_of (length o.steps) o.steps
  pub are_entries : AreEntries (length o.acts) items
  pub is_sending : sending ≡ senders_of o.steps
  pub station : o.usual.serving ≤ 7
