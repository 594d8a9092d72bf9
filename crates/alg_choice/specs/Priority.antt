-- A list of one or two encryption algorithms, the preferred one first.
use Rattle.std.specs.Prelude.{◌≡◌, List, [], ◌∷◌, Option, Some, None, refl}
use Rattle.alg_choice.specs.{declared.algs.Eea.Eea, declared.algs.Eea.TheVariants.Eea0}

-- the list of them
abbrev pub order_of : Eea → Option Eea → List Eea
order_of first None = first ∷ []
order_of first (Some second) = first ∷ second ∷ []

-- and back
abbrev pub first_of : List Eea → Eea
first_of [] = Eea0
first_of (first ∷ rest) = first

abbrev pub second_of : List Eea → Option Eea
second_of [] = None
second_of (first ∷ []) = None
second_of (first ∷ second ∷ rest) = Some second

pub first_of-order_of : (first : Eea) (second : Option Eea) → first_of (order_of first second) ≡ first
first_of-order_of first None = refl
first_of-order_of first (Some second) = refl

pub second_of-order_of : (first : Eea) (second : Option Eea) → second_of (order_of first second) ≡ second
second_of-order_of first None = refl
second_of-order_of first (Some second) = refl
