-- What all choices of so many faults are.
use Rattle.std.specs.Prelude.{◌≡◌, ◌⊎◌, ℕ, List, [], ◌∷◌, length, All}
use Rattle.item_faults.specs.{declared.changes.Fault.Fault, declared.entries.Entry.Entry, Faults.faults_of, Once.Among, Once.Once, Once.names}

-- these are some of those faults, in their order
abbrev pub IsPart : List Fault → List Fault → Type 0
IsPart [] fs = Unit {0}
IsPart (s ∷ ss) [] = ⊥
IsPart (s ∷ ss) (f ∷ fs) = ((s ≡ f) × IsPart ss fs) ⊎ IsPart (s ∷ ss) fs

-- a choice of so many of these faults
abbrev pub IsChoice : ℕ → List Fault → List Fault → Type 0
IsChoice count faults s = (length s ≡ count) × IsPart s faults

-- all choices of so many of these faults: each choice is among them, each of them is a choice, and where each fault stands once, so does each
-- choice; so of faults of a scenario, in which no name and no message stands twice
pub record AreAll (count : ℕ) (faults : List Fault) (choices : List (List Fault)) : Type 0 where
  pub complete : (s : List Fault) → IsChoice count faults s → Among s choices
  pub sound : All (IsChoice count faults) choices
  pub once : Once faults → Once choices
  pub of_scenario : (entries : List Entry) (messages : List ℕ) → Once (names entries) → Once messages → IsPart faults (faults_of entries messages) → Once choices
