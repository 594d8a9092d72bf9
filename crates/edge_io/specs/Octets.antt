-- How the octets left and the octets written change, where they are told.
use Rattle.std.specs.Prelude.{◌≡◌, ℕ, ◌≤◌, ◌<◌, Option, List, [], length, take, Result, Ok, Err}
use Rattle.std.specs.Io.KnownBytes.{prepend_known, append_known}
use Rattle.edge_io.specs.Told.{Told}

-- the octets that a read gave in its buffer, or that a write took of its piece
abbrev pub octets_of : {E : Type 0} → Result ℕ E → List ℕ → List ℕ
octets_of (Ok n) octets = take n octets
octets_of (Err _) octets = []

-- The octets left begin with these, and lose them. What is told stays told.
abbrev pub Gives : Option (List ℕ) → Option (List ℕ) → List ℕ → Type 0
Gives old new octets = old ≡ prepend_known octets new

-- The octets written grow by these. What is told stays told.
abbrev pub Grows : Option (List ℕ) → Option (List ℕ) → List ℕ → Type 0
Grows old new octets = new ≡ append_known old octets

-- the octets written grow by a prefix of these
pub record GrowsByPrefix (old new : Option (List ℕ)) (octets : List ℕ) : Type 0 where
  pub count : ℕ
  pub grows : Grows old new (take count octets)

-- the octets written grow by a prefix of these that is not all: something is still to be written
pub record GrowsByProperPrefix (old new : Option (List ℕ)) (octets : List ℕ) : Type 0 where
  pub count : ℕ
  pub short : count < length octets
  pub grows : Grows old new (take count octets)

-- the octets left lose some octets at their front
pub record LosesPrefix (old new : Option (List ℕ)) : Type 0 where
  pub taken : List ℕ
  pub gives : Gives old new taken

-- the octets left lose some octets at their front, at most so many
pub record LosesWithin (limit : ℕ) (old new : Option (List ℕ)) : Type 0 where
  pub taken : List ℕ
  pub gives : Gives old new taken
  pub within : length taken ≤ limit

-- the octets left lose some octets at their front, fewer than so many
pub record LosesFewer (limit : ℕ) (old new : Option (List ℕ)) : Type 0 where
  pub taken : List ℕ
  pub gives : Gives old new taken
  pub fewer : length taken < limit

-- a read that gave octets, or failed, met no end
abbrev pub MetNoEnd : {E : Type 0} → Result ℕ E → Told → Told → Type 0
MetNoEnd (Ok n) before after = 0 < n → after.ended ≡ before.ended
MetNoEnd (Err _) before after = after.ended ≡ before.ended
