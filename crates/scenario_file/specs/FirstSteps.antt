-- The first steps of a scenario, up to so many; what comes behind them is left out.
use Rattle.std.specs.Prelude.{ℕ, List, ◌++◌, take}
use Rattle.lte_events.specs.declared.events.Event.{Event}

pub record Taken : Type 0 where
  pub steps : List Event
  pub most : ℕ

-- with these steps behind them
unfoldable pub with_steps : Taken → List Event → Taken
with_steps taken more = record taken { steps = take taken.most (taken.steps ++ more) }
