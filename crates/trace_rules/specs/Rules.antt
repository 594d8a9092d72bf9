-- A network as who watches it sees it: nets N, moves M, and what is sent where a tap may stand, S.
use Rattle.std.specs.Prelude.{◌≡◌, Bool, true, not, Option, None, Some, List, [], ◌∷◌, ◌⊎◌}

-- what a lawful move leaves, and what it sends where a tap may stand, if anything
pub record Done (N S : Type 0) : Type 0 where
  pub net : N
  pub sent : Option S

-- nothing was sent, or it was sent where no tap is
abbrev pub is_unseen : {S : Type 0} → (S → Bool) → Option S → Bool
is_unseen covers None = true
is_unseen covers (Some x) = not (covers x)

-- x is one of these
abbrev pub IsIn : {X : Type 0} → X → List X → Type 0
IsIn x [] = ⊥
IsIn x (y ∷ ys) = (y ≡ x) ⊎ IsIn x ys

-- each of these is one of those
abbrev pub AreIn : {X : Type 0} → List X → List X → Type 0
AreIn [] ys = Unit {0}
AreIn (x ∷ xs) ys = IsIn x ys × AreIn xs ys
