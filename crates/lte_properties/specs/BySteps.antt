-- Agreement step by step: at which step the phone took a key, and at which the station there had made one.
use Rattle.std.specs.Prelude.{◌≡◌, ℕ, ◌<◌, List, [], ◌∷◌, ◌++◌, Some}
use Rattle.lte_events.specs.{declared.events.Event.Event, declared.setups.Setup.Setup}
use Rattle.key_model.specs.Term.{Term}
use Rattle.lte_machine.specs.{ByEvent.IsStep, Wire.Outgoing, World.World, World.Line}
use Rattle.lte_machine.specs.Reply.{Note, Made, Took}
use Rattle.lte_properties.specs.Agreement.{ahead, ObeysMade}

-- at step k a station draws an air address and makes this for it
pub record MakesAt (setup : Setup) (events : List Event) (k : ℕ) (m : Made Term ℕ) (line : Line Term) : Type 0 where
  pub world : World Term ℕ (Outgoing Term ℕ)
  pub event : Event
  pub after : World Term ℕ (Outgoing Term ℕ)
  pub step : IsStep setup events k world event after line
  pub makes : after.made ≡ world.made ++ m ∷ []

-- at step k the phone takes this: the security of its connection starts, or it obeys an order
pub record TakesAt (setup : Setup) (events : List Event) (k : ℕ) (x : Took Term ℕ) (line : Line Term) : Type 0 where
  pub world : World Term ℕ (Outgoing Term ℕ)
  pub event : Event
  pub after : World Term ℕ (Outgoing Term ℕ)
  pub step : IsStep setup events k world event after line
  pub takes : after.took ≡ world.took ++ x ∷ []

-- two lines tell one key and one NCC
abbrev pub TellOneKey : Line Term → Line Term → Type 0
TellOneKey l n =
    (a : Note Term) × (b : Note Term) × (l.note ≡ Some a) × (n.note ≡ Some b) × (a.key ≡ b.key) × (a.ncc ≡ b.ncc)

-- what the phone takes at step k was made for that air address at an earlier step; fewer than eight steps ahead the lines of
-- both steps tell one key
pub record Follows (setup : Setup) (events : List Event) (k : ℕ) (x : Took Term ℕ) (line : Line Term) : Type 0 where
  -- what was made there, at which step, and the line of that step
  pub made : Made Term ℕ
  pub when : ℕ
  pub told : Line Term
  pub makes : MakesAt setup events when made told
  pub earlier : when < k
  pub there : (made.station ≡ x.station) × (made.air ≡ x.air)
  -- how what the phone took stands to it
  pub obeys : ObeysMade x x.came made
  pub near : ahead made x.came < 8 → TellOneKey line told
