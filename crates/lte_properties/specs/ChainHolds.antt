-- What holds of the chain numbers in every world of every run (TS 33.401 7.2.8).
use Rattle.std.specs.Prelude.{ℕ, ◌==◌, if◌then◌else◌, List, [], ◌∷◌, Option, Some, None}
use Rattle.lte_events.specs.{declared.events.Event.Event, declared.setups.Setup.Setup}
use Rattle.key_model.specs.Term.{Term}
use Rattle.lte_machine.specs.{Wire.Outgoing, CoreState.CoreLink, Run.first_world}
use Rattle.lte_machine.specs.World.{Machine, World, happens}
use Rattle.lte_properties.specs.ChainBelow.{AllOf, StationBelow, RecordBelow, CoreTop}
use Rattle.lte_properties.specs.ChainAbove.{StationAbove, InFlight}
pub use Rattle.lte_machine.specs.Run.{run}
pub use Rattle.lte_machine.specs.Machines.{machine_by}

-- `top`, brought up to date with the number of the core's present connection
abbrev pub noted : Option (CoreLink Term ℕ) → (ℕ → ℕ) → ℕ → ℕ
noted None top conn = top conn
noted (Some link) top conn = if conn == link.conn then link.chain.number else top conn

-- the core's number for each connection after a run, or the last one where it has ended
abbrev pub core_numbers : {S : Type 0} → Machine Term ℕ S → World Term ℕ S → (ℕ → ℕ) → List Event → ℕ → ℕ
core_numbers m w top [] = top
core_numbers m w top (e ∷ es) = let u = (happens m w e).0 in core_numbers m u (noted u.core.link top) es

-- the core's number for a connection, or its last, is at or above each number of it at core, stations and in flight; stored
-- and moved pairs are above the KeNB of their context; requests and answers in flight fit the station that asked
pub record Holds (top : ℕ → ℕ) (w : World Term ℕ (Outgoing Term ℕ)) : Type 0 where
  pub core : CoreTop top w.core
  pub below : AllOf (StationBelow top) w.stations
  pub above : AllOf StationAbove w.stations
  pub sent : AllOf (RecordBelow top) w.sent
  pub flight : AllOf (λ s. AllOf (InFlight s) w.sent) w.stations

-- it holds after these events, from the first world of a setup, where the core's number of each connection begins at 0
abbrev pub ChainNumbersHold : Machine Term ℕ (Outgoing Term ℕ) → Setup → List Event → Type 0
ChainNumbersHold m setup events =
    Holds (core_numbers m (first_world setup) (λ conn. 0) events) (run m (first_world setup) events)
