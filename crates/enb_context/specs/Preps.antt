-- What holds of a station's preparations and of its context: no connection is above the last.
use Rattle.std.specs.Prelude.{◌≡◌, ℕ, ◌≤◌, ◌==◌, true, false, List, All, Option, None, Some, IsSome}
use Rattle.ho_prep.specs.Prep.{Prep, at_air}
use Rattle.lte_machine.specs.StationState.{Context}

-- no preparation has a connection above this one
pub record NoneAbove (last : ℕ) (ps : List (Prep (List ℕ) ℕ)) : Type 0 where
  pub all : All (λ p. p.conn ≤ last) ps

-- nor has the context
abbrev pub IsWithin : ℕ → Option (Context (List ℕ) ℕ) → Type 0
IsWithin last None = Unit {0}
IsWithin last (Some c) = c.conn ≤ last

-- no context has this air address
abbrev pub IsElsewhere : ℕ → Option (Context (List ℕ) ℕ) → Type 0
IsElsewhere air None = Unit {0}
IsElsewhere air (Some c) = (c.air == air) ≡ false

-- a preparation stands at this air address
abbrev pub IsFound : ℕ → List (Prep (List ℕ) ℕ) → Type 0
IsFound air ps = IsSome (at_air air ps)

-- the context has this air address
abbrev pub IsServed : ℕ → Option (Context (List ℕ) ℕ) → Type 0
IsServed air None = ⊥
IsServed air (Some c) = (c.air == air) ≡ true
