-- The order in which a phone comes to its KeNBs: by authentication, NAS COUNT, chain number and handovers (TS 33.401 7.2.8).
use Rattle.std.specs.Prelude.{◌≡◌, ℕ, ◌+◌, ◌<◌, ◌≤◌}
use Rattle.key_model.specs.Term.{Term, Root, Kenb, Nh, Star, Alg}
use Rattle.key_model.specs.Number.{chain_number}
use Rattle.lte_properties.specs.Origins.{nas_count_of}

-- the authentication that left the KASME of a key (6.1.1)
abbrev pub authentication_of : Term → ℕ
authentication_of (Root r octets) = r
authentication_of (Kenb r n) = authentication_of r
authentication_of (Nh r t) = authentication_of t
authentication_of (Star t pci earfcn) = authentication_of t
authentication_of (Alg t type id) = authentication_of t

-- the handovers since the last NH or KeNB (A.5)
abbrev pub stars_of : Term → ℕ
stars_of (Star t pci earfcn) = stars_of t + 1
stars_of other = 0

-- one after the other in these four, where the last differs so
abbrev pub InOrder : (ℕ → ℕ → Type 0) → Term → Term → Type 0
InOrder Last t u =
    (authentication_of t ≤ authentication_of u) × (authentication_of t ≡ authentication_of u →
    (nas_count_of t ≤ nas_count_of u) × (nas_count_of t ≡ nas_count_of u →
    (chain_number t ≤ chain_number u) × (chain_number t ≡ chain_number u → Last (stars_of t) (stars_of u))))

-- a key comes before another
abbrev pub IsBefore : Term → Term → Type 0
IsBefore t u = InOrder (λ m n. m < n) t u

-- a key does not come after another
abbrev pub IsNotAfter : Term → Term → Type 0
IsNotAfter t u = InOrder (λ m n. m ≤ n) t u

-- a key stands as far along as another, but for handovers
abbrev pub IsLevel : Term → Term → Type 0
IsLevel t u =
    (authentication_of t ≡ authentication_of u) × (nas_count_of t ≡ nas_count_of u) × (chain_number t ≡ chain_number u)
