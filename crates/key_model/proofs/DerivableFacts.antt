-- What can be derived from a set of keys with no KASME in it.
use Rattle.std.proofs.Common.{ℕ, zero, suc, List, [], ◌∷◌, ◌⊎◌, inl, inr, refl, sym, ap, subst}
use Rattle.std.specs.Prelude.{◌↔◌}
use Rattle.key_model.specs.Term.{Term, Root, Kenb, Nh, Star, Alg, IsRoot, IsDerivationKey, IsWellFormed}
use Rattle.key_model.specs.Chain.{nh}
use Rattle.key_model.specs.Derivable.{Derivable, in_set, by_kenb, by_nh, by_star, by_alg, HasNoRoot, stars, ComesByStars, ComesFrom}

-- no KASME can be derived
pub no_root : (held : Term → Type 0) → HasNoRoot held → (r : Term) → IsRoot r → Derivable held r → ⊥
no_root held none (Root r octets) is d = not_held d
  where
    not_held : Derivable held (Root r octets) → ⊥
    not_held (in_set h) = none r octets h
no_root held none (Kenb r n) is d = is
no_root held none (Nh r t) is d = is
no_root held none (Star t pci earfcn) is d = is
no_root held none (Alg t type id) is d = is

-- a KeNB that can be derived is in the set
pub kenb_held : (held : Term → Type 0) → HasNoRoot held → (r : Term) (n : ℕ) → IsRoot r → Derivable held (Kenb r n) → held (Kenb r n)
kenb_held held none r n is (in_set h) = h
kenb_held held none r n is (by_kenb d) = absurd (no_root held none r is d)

-- and so is an NH
pub nh_held : (held : Term → Type 0) → HasNoRoot held → (r t : Term) → IsRoot r → Derivable held (Nh r t) → held (Nh r t)
nh_held held none r t is (in_set h) = h
nh_held held none r t is (by_nh d e) = absurd (no_root held none r is d)

-- a KeNB below a root can be derived exactly where it is in the set
pub kenb_derivable : (held : Term → Type 0)
    → HasNoRoot held
    → (r n : ℕ) (octets : List ℕ)
    → Derivable held (Kenb (Root r octets) n) ↔ held (Kenb (Root r octets) n)
kenb_derivable held none r n octets = (kenb_held held none (Root r octets) n tt, in_set)

-- and so an NH
pub nh_derivable : (held : Term → Type 0)
    → HasNoRoot held
    → (r : ℕ) (octets : List ℕ) (t : Term)
    → Derivable held (Nh (Root r octets) t) ↔ held (Nh (Root r octets) t)
nh_derivable held none r octets t = (nh_held held none (Root r octets) t tt, in_set)

-- and so is each key of a chain
pub chain_held : (held : Term → Type 0) → HasNoRoot held → (r : Term) (n i : ℕ) → IsRoot r → Derivable held (nh r n i) → held (nh r n i)
chain_held held none r n zero is d = kenb_held held none r n is d
chain_held held none r n (suc i) is d = nh_held held none r (nh r n i) is d

-- a KeNB* of a key of a chain is in the set, or that key is
pub star_held : (held : Term → Type 0)
    → HasNoRoot held
    → (r : Term) (n i pci earfcn : ℕ)
    → IsRoot r
    → Derivable held (Star (nh r n i) pci earfcn) ↔ (held (Star (nh r n i) pci earfcn) ⊎ held (nh r n i))
star_held held none r n i pci earfcn is = (either, derives)
  where
    either : Derivable held (Star (nh r n i) pci earfcn) → held (Star (nh r n i) pci earfcn) ⊎ held (nh r n i)
    either (in_set h) = inl h
    either (by_star d) = inr (chain_held held none r n i is d)

    derives : held (Star (nh r n i) pci earfcn) ⊎ held (nh r n i) → Derivable held (Star (nh r n i) pci earfcn)
    derives (inl h) = in_set h
    derives (inr h) = by_star (in_set h)

-- a key that others are derived from is well formed
well_formed : (t : Term) → IsDerivationKey t → IsWellFormed t
well_formed (Root r octets) k = k
well_formed (Kenb r n) k = k
well_formed (Nh r t) k = k
well_formed (Star t pci earfcn) k = k
well_formed (Alg t type id) k = absurd k

-- such a key comes by KeNB* steps alone
by_stars_alone : (held : Term → Type 0) (t : Term) → IsDerivationKey t → ComesFrom held t → ComesByStars held t
by_stars_alone held (Root r octets) k c = c
by_stars_alone held (Kenb r n) k c = c
by_stars_alone held (Nh r t) k c = c
by_stars_alone held (Star t pci earfcn) k c = c
by_stars_alone held (Alg t type id) k c = absurd k

-- a key of the set comes from it in no step
itself : (held : Term → Type 0) (t : Term) → held t → ComesFrom held t
itself held (Root r octets) h = (Root r octets, [], h, refl)
itself held (Kenb r n) h = (Kenb r n, [], h, refl)
itself held (Nh r t) h = (Nh r t, [], h, refl)
itself held (Star t pci earfcn) h = (Star t pci earfcn, [], h, refl)
itself held (Alg t type id) h = inl (Alg t type id, [], h, refl)

-- one KeNB* more
one_more : (held : Term → Type 0) (t : Term) (pci earfcn : ℕ) → ComesByStars held t → ComesByStars held (Star t pci earfcn)
one_more held t pci earfcn (s, cells, h, e) = (s, (pci, earfcn) ∷ cells, h, ap (λ u. Star u pci earfcn) e)

-- what can be derived comes from a key of the set
pub comes : (held : Term → Type 0) → HasNoRoot held → {t : Term} → Derivable held t → IsWellFormed t → ComesFrom held t
comes held none (in_set {t = t} h) w = itself held t h
comes held none (by_kenb {r = r} d) w = absurd (no_root held none r w d)
comes held none (by_nh {r = r} d e) w = absurd (no_root held none r w.0 d)
comes held none (by_star {t = t} {pci = pci} {earfcn = earfcn} d) w =
    one_more held t pci earfcn (by_stars_alone held t w (comes held none d (well_formed t w)))
comes held none (by_alg {t = t} d) w = inr (by_stars_alone held t w (comes held none d (well_formed t w)))

-- KeNB* steps from a key of the set
stars_derivable : (held : Term → Type 0) (s : Term) → held s → (cells : List (ℕ × ℕ)) → Derivable held (stars s cells)
stars_derivable held s h [] = in_set h
stars_derivable held s h (cell ∷ cells) = by_star (stars_derivable held s h cells)

by_stars_derivable : (held : Term → Type 0) (t : Term) → ComesByStars held t → Derivable held t
by_stars_derivable held t (s, cells, h, e) = subst (λ u. Derivable held u) (sym e) (stars_derivable held s h cells)

-- what comes from a key of the set can be derived
pub from_set_derivable : (held : Term → Type 0) (t : Term) → ComesFrom held t → Derivable held t
from_set_derivable held (Root r octets) c = by_stars_derivable held (Root r octets) c
from_set_derivable held (Kenb r n) c = by_stars_derivable held (Kenb r n) c
from_set_derivable held (Nh r t) c = by_stars_derivable held (Nh r t) c
from_set_derivable held (Star t pci earfcn) c = by_stars_derivable held (Star t pci earfcn) c
from_set_derivable held (Alg t type id) (inl c) = by_stars_derivable held (Alg t type id) c
from_set_derivable held (Alg t type id) (inr c) = by_alg (by_stars_derivable held t c)

-- a well-formed key can be derived exactly where it comes from a key of the set
pub derivable_is : (held : Term → Type 0) → HasNoRoot held → (t : Term) → IsWellFormed t → Derivable held t ↔ ComesFrom held t
derivable_is held none t w = (λ d. comes held none d w, from_set_derivable held t)
