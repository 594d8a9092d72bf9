-- The items at which keys part, and those of two runs.
use Rattle.std.specs.Prelude.{◌≡◌, ◌↔◌, ℕ, true, slice_get, Some}
use Rattle.item_lines.specs.declared.lines.Told.{Told}
use Rattle.item_outcomes.specs.{Heals.takes_one, Keys.keys_differ, Keys.parted, Probe.is_among}
use Rattle.item_runs.specs.Course.{Seen}
use Rattle.item_keys.specs.Far.{TakesFar, TakesMade}

-- at the item of this name the phone takes a key that was made eight or more steps ahead
pub record FarAt (s : Seen) (name : ℕ) : Type 0 where
  pub place : ℕ
  pub line : Told
  pub stands : slice_get s.coming.told place ≡ Some line
  pub named : line.name ≡ name
  pub far : TakesFar s.setup s.coming.events place

-- KEYS PART at these items, and at no other
abbrev pub PartsFar : Seen → Type 0
PartsFar s = (name : ℕ) → (is_among (parted s.coming.told) name ≡ true) ↔ FarAt s name

-- the phone does so at an item here, and does not at that item in the scenario
pub record FarHere (usual here : Seen) : Type 0 where
  pub name : ℕ
  pub far : FarAt here name
  pub near : FarAt usual name → ⊥

-- KEYS DIFFER exactly there
abbrev pub DifferFar : Seen → Seen → Type 0
DifferFar usual here = (keys_differ usual.coming.told here.coming.told ≡ true) ↔ FarHere usual here

-- at the item of this name the phone takes the key that the station made
pub record MadeAt (s : Seen) (name : ℕ) : Type 0 where
  pub place : ℕ
  pub line : Told
  pub stands : slice_get s.coming.told place ≡ Some line
  pub named : line.name ≡ name
  pub made : TakesMade s.setup s.coming.events place

-- ONE KEY where the phone takes a key at an item, and keys do not part there
abbrev pub TakesOne : Seen → Type 0
TakesOne s = (name : ℕ) → takes_one s.coming.told name ≡ true → MadeAt s name
