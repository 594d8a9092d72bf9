-- A list of events.
use Rattle.std.specs.Prelude.{ℕ, ◌≤◌, List, length, All}
use Rattle.lte_events.specs.{declared.events.Event.Event, declared.heads.Head.Head, Texts.Item, Joined.joined, Joined.most}

-- the events, and for how many more there is room
pub record Listed : Type 0 where
  pub items : List Event
  pub spare : ℕ

-- an event whose text stands apart from what it is besides
abbrev pub event_of : Item Head → Event
event_of i = joined i.tag i.octets

-- the text is no longer than that of such an event can be
abbrev pub Fits : Item Head → Type 0
Fits i = length i.octets ≤ most i.tag

abbrev pub AllFit : List (Item Head) → Type 0
AllFit items = All Fits items
