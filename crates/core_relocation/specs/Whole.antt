-- Two cores as a caller sees them.
use Rattle.std.specs.Prelude.{◌≡◌, ◌≤◌, ◌<◌, List, [], ◌∷◌, ◌++◌, length}
use Rattle.std.specs.List.{AllByRecursion as AllOf}
use Rattle.lte_events.specs.{Ranges.IsEvent, Ranges.IsSetup, declared.events.Event.Event, Scenario.most_events, Scenario.CanHappen}
use Rattle.lte_machine.specs.Run.{GoesOn}
use Rattle.lte_world.specs.Whole as world
use Rattle.lte_world.specs.Whole.{run_of}
use Rattle.core_relocation.specs.{declared.cores.Cores.Cores, declared.senders.Sender.Sender}
use Rattle.core_relocation.specs.Run.{TwoState, run_after, two_state}

pub record TwoWhole : Type 0 where
  -- the one system
  pub world : world.Whole
  -- the core of each station, the cells, and where the context is
  pub cores : Cores
  -- the events that were answered by a line
  pub events : List Event
  -- who sent each record
  pub senders : List Sender

-- what they have come to
abbrev pub state_of : TwoWhole → TwoState
state_of v = record { steps = length v.events; heard = v.world.journal; held = v.cores.held; senders = v.senders }

-- what the run of the written machine with two cores has come to after these events
abbrev pub state_written : TwoWhole → TwoState
state_written v = two_state v.world.setup v.cores.core_of v.events

-- no coincidence ended the system
abbrev pub StillRuns : TwoWhole → Type 0
StillRuns v = GoesOn (run_of v.world)

-- what holds of them
pub record Keeps (v : TwoWhole) : Type 0 where
  pub set : IsSetup v.world.setup
  pub are : AllOf IsEvent v.world.journal
  pub cells : v.cores.cells ≡ v.world.setup.cells
  pub heard : length v.world.journal ≤ length v.events
  pub sent : length v.senders ≤ length v.events
  pub run : StillRuns v → run_of v.world ≡ run_after v.world.setup v.cores.core_of v.world.journal
  pub state : StillRuns v → state_of v ≡ state_written v

-- an event that can happen to them
pub record CanTake (v : TwoWhole) (e : Event) : Type 0 where
  pub can : CanHappen v.world.setup e
  pub few : length v.events < most_events

-- it was answered by a line, and they go on
pub record Takes (v : TwoWhole) (e : Event) (after : TwoWhole) : Type 0 where
  pub runs : StillRuns after
  pub setup : after.world.setup ≡ v.world.setup
  pub core_of : after.cores.core_of ≡ v.cores.core_of
  pub events : after.events ≡ v.events ++ e ∷ []
