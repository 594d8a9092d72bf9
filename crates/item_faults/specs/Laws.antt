-- What holds of the items of each variant.
use Rattle.std.specs.Prelude.{ℕ, ◌+◌, ◌<◌, ◌≤◌, List, [], ◌∷◌, length, All, Option, Some, None}
use Rattle.item_faults.specs.{declared.changes.Fault.Fault, declared.entries.Again.Again, declared.entries.Entry.Entry, declared.steps.Step.Step}
use Rattle.item_faults.specs.declared.entries.Again.TheVariants as again
use Rattle.items.specs.Items.{IsDeedOf}

abbrev pub IsAgainOf : ℕ → Again → Type 0
IsAgainOf acts again.Never = Unit {0}
IsAgainOf acts (again.Act a) = a < acts
IsAgainOf acts (again.Answer a) = a < acts
IsAgainOf acts (again.Anew a b) = (a < acts) × (b < acts)
IsAgainOf acts (again.AnewAnswer a b) = (a < acts) × (b < acts)

pub record IsEntryOf (acts : ℕ) (e : Entry) : Type 0 where
  pub does : IsDeedOf acts e.deed
  pub repeats : IsAgainOf acts e.again

abbrev pub AreEntries : ℕ → List Entry → Type 0
AreEntries acts entries = All (IsEntryOf acts) entries

-- a step of so many, by no station or by one of eight
abbrev pub IsStationOf : Option ℕ → Type 0
IsStationOf None = Unit {0}
IsStationOf (Some id) = id < 8

pub record IsStep (acts : ℕ) (s : Step) : Type 0 where
  pub number : s.number < acts
  pub station : IsStationOf s.station

-- how many items so many faults leave at most
abbrev pub at_most : List Fault → ℕ → ℕ
at_most [] n = n
at_most (f ∷ fs) n = at_most fs (n + 5)

-- so many items a variant of eight faults has at most
abbrev pub most_items : ℕ
most_items = 2040

-- items of so many acts that can happen in a row
pub record CanRun (acts : ℕ) (list : List Entry) : Type 0 where
  pub entries : AreEntries acts list
  pub few : length list ≤ most_items
