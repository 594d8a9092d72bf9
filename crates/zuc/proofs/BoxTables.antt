-- The tables of the code against the S-boxes.
use Rattle.std.proofs.Common.{◌≡◌, ℕ, ◌+◌, ◌*◌, ◌^◌, ◌<◌, [], ◌∷◌, map, get_or, refl, ap, ◌∙◌, arith}
use Rattle.std.specs.{Int.w32, Int.from_be_bytes, List.range_with_len}
use Rattle.std.proofs.lemmas.List.FromFn.{get_or-map-range_with_len}
use Rattle.zuc.specs.Boxes.{affine, inverse, multiply, s0, s1}
use Rattle.zuc.specs.declared.s_boxes.TheConstants.{S0, S1}

all_s0 : S0 ≡ map s0 (range_with_len 0 256)
unfolding s0
all_s0 = refl

pub get_or-S0 : (x : ℕ) → x < 256 → get_or S0 x 0 ≡ s0 x
get_or-S0 x h = ap (λ xs. get_or xs x 0) all_s0 ∙ get_or-map-range_with_len s0 0 256 x x 0 h (omega arith)

all_s1 : S1 ≡ map s1 (range_with_len 0 256)
unfolding s1 affine inverse multiply
all_s1 = refl

pub get_or-S1 : (x : ℕ) → x < 256 → get_or S1 x 0 ≡ s1 x
get_or-S1 x h = ap (λ xs. get_or xs x 0) all_s1 ∙ get_or-map-range_with_len s1 0 256 x x 0 h (omega arith)

pub number_of_four : (a b c d : ℕ)
    → from_be_bytes w32 (a ∷ b ∷ c ∷ d ∷ []) ≡ a * 2 ^ 24 + b * 2 ^ 16 + c * 2 ^ 8 + d
number_of_four a b c d = omega arith
