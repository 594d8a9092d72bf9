-- What one event of a run does.
use Rattle.std.specs.Prelude.{◌≡◌, ◌<◌, [], ◌∷◌, ◌++◌, length}
use Rattle.lte_events.specs.{Scenario.most_events, Scenario.CanHappen, declared.events.Event.Event}
use Rattle.lte_world.specs.Whole.{Whole, run_of, turned}
use Rattle.lte_machine.specs.Run.{GoesOn}

-- a system that goes on, and an event that can happen to it
pub record CanTake (v : Whole) (e : Event) : Type 0 where
  pub goes_on : GoesOn (run_of v)
  pub can : CanHappen v.setup e
  pub few : length v.journal < most_events

-- the event happened to it
pub record Takes (v : Whole) (e : Event) (after : Whole) : Type 0 where
  pub run : run_of after ≡ turned v e
  pub setup : after.setup ≡ v.setup
  pub journal : after.journal ≡ v.journal ++ e ∷ []
