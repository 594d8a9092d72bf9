-- Which keys can be derived by somebody who holds a set of keys.
use Rattle.std.specs.Prelude.{◌≡◌, ℕ, List, [], ◌∷◌, ◌⊎◌}
use Rattle.key_model.specs.Term.{Term, Root, Kenb, Nh, Star, Alg}

-- a key of the set, or one that a derivation of TS 33.401 Annex A makes from derivable keys
pub data Derivable (held : Term → Type 0) : Term → Type 0 where
  in_set : {t : Term} → held t → Derivable held t
  -- A.3
  by_kenb : {r : Term} {n : ℕ} → Derivable held r → Derivable held (Kenb r n)
  -- A.4
  by_nh : {r t : Term} → Derivable held r → Derivable held t → Derivable held (Nh r t)
  -- A.5
  by_star : {t : Term} {pci earfcn : ℕ} → Derivable held t → Derivable held (Star t pci earfcn)
  -- A.7
  by_alg : {t : Term} {type id : ℕ} → Derivable held t → Derivable held (Alg t type id)

-- no KASME is in the set
abbrev pub HasNoRoot : (Term → Type 0) → Type 0
HasNoRoot held = (r : ℕ) (octets : List ℕ) → ¬ held (Root r octets)

-- the KeNB* after handovers to these cells, each a PCI and an EARFCN-DL, the latest first (A.5)
abbrev pub stars : Term → List (ℕ × ℕ) → Term
stars t [] = t
stars t (cell ∷ cells) = Star (stars t cells) cell.0 cell.1

-- t comes from a key of the set by KeNB* steps, or by none (A.5)
abbrev pub ComesByStars : (Term → Type 0) → Term → Type 0
ComesByStars held t = (s : Term) × (cells : List (ℕ × ℕ)) × held s × (t ≡ stars s cells)

-- t comes so, or is an algorithm key of a key that does (A.5 and A.7)
abbrev pub ComesFrom : (Term → Type 0) → Term → Type 0
ComesFrom held (Alg t type id) = ComesByStars held (Alg t type id) ⊎ ComesByStars held t
ComesFrom held t = ComesByStars held t
