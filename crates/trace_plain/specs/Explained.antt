-- How far a capture has a lawful history.
use Rattle.std.specs.Prelude.{◌≡◌, ℕ, ◌+◌, ◌<◌, ◌≤◌, Bool, true, List, length, take, Option}
use Rattle.trace_rules.specs.{Rules.Done, Rules.AreIn, History.History}

-- The first n sightings have a lawful history of moves of this family, with at most `bound` unseen ones between two sightings.
-- Where there are more, no such history shows one sighting more; where the search is closed, none does, however many moves go unseen.
pub record ExplainedTo {N M S : Type 0} (moved : N → M → Option (Done N S)) (fits : S → S → Bool) (covers : S → Bool) (family : List M) (bound : ℕ) (start : N) (capture : List S) (n : ℕ) (closed : Bool) : Type 0 where
  pub within : n ≤ length capture
  pub witness : (moves : List M) × AreIn moves family × History moved fits covers bound bound start moves (take n capture)
  pub no_more : n < length capture
      → (moves : List M)
      → AreIn moves family
      → ¬ History moved fits covers bound bound start moves (take (n + 1) capture)
  pub at_all : closed ≡ true
      → n < length capture
      → (any : ℕ) (moves : List M)
      → AreIn moves family
      → ¬ History moved fits covers any any start moves (take (n + 1) capture)
