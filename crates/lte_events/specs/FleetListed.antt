-- A list of the events of a fleet, each with its phone.
use Rattle.std.specs.Prelude.{ℕ, List}
use Rattle.lte_events.specs.declared.events.Event.{Event}

-- the phones and their events, and for how many more there is room
pub record FleetListed : Type 0 where
  pub items : List (ℕ × Event)
  pub spare : ℕ
