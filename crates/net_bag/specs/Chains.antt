-- Records with one value, as a chain from the first of them to the next.
use Rattle.std.specs.Prelude.{◌≡◌, ℕ, ◌+◌, ◌<◌, ◌≤◌, List, [], ◌∷◌, ◌++◌, Option, Some, None, length, map, slice_get}
use Rattle.std.proofs.Math.ListN.{set}
use Rattle.std.specs.Option.{option_map}
use Rattle.net_bag.specs.{declared.chains.Chain.Chain, declared.chains.Link.Link}

-- the values, in order
abbrev pub digests_of : List Link → List (List ℕ)
digests_of links = map (λ l. l.digest) links

-- which of the values from this place on is the first that is d
abbrev pub IsFirstFrom : List (List ℕ) → List ℕ → ℕ → Option ℕ → Type 0
IsFirstFrom digests d from None = (j : ℕ) → from ≤ j → slice_get digests j ≡ Some d → ⊥
IsFirstFrom digests d from (Some k) =
    (from ≤ k) × (slice_get digests k ≡ Some d) × ((j : ℕ) → from ≤ j → j < k → slice_get digests j ≡ Some d → ⊥)

-- the last of the values that is d
abbrev pub IsLast : List (List ℕ) → List ℕ → ℕ → Type 0
IsLast digests d k = (slice_get digests k ≡ Some d) × ((j : ℕ) → k < j → slice_get digests j ≡ Some d → ⊥)

-- each chain knows its first and last, and each link its next
pub record IsChained (chain_of : List ℕ → Option Chain) (links : List Link) : Type 0 where
  pub firsts : (d : List ℕ) → IsFirstFrom (digests_of links) d 0 (option_map (λ c. c.first) (chain_of d))
  pub lasts : (d : List ℕ) (c : Chain) → chain_of d ≡ Some c → IsLast (digests_of links) d c.last
  pub nexts : (k : ℕ) (l : Link) → slice_get links k ≡ Some l → IsFirstFrom (digests_of links) l.digest (k + 1) l.next

-- the links, with one more for a record with this value at the end, to which the last of its chain leads
abbrev pub linked : List Link → Option Chain → List ℕ → List Link
linked links None digest = links ++ record { digest = digest; next = None } ∷ []
linked links (Some chain) digest = set links chain.last (record { digest = digest; next = Some (length links) }) ++ record { digest = digest; next = None } ∷ []

-- the chain of the value that the record at the end has
abbrev pub chain_with : Option Chain → ℕ → Chain
chain_with None number = record { first = number; last = number }
chain_with (Some chain) number = record { first = chain.first; last = number }
