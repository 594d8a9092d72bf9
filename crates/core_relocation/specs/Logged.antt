-- What happened so far: the events that were answered by a line, and who sent each record.
use Rattle.std.specs.Prelude.{ℕ, List}
use Rattle.lte_events.specs.declared.events.Event.{Event}
use Rattle.core_relocation.specs.declared.senders.Sender.{Sender}

pub record Logged : Type 0 where
  pub events : List Event
  pub senders : List Sender
  -- for how many more of each there is room
  pub event_room : ℕ
  pub sender_room : ℕ
