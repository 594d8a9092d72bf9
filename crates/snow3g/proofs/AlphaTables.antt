-- The tables of the code against MULalpha and DIValpha.
use Rattle.std.proofs.Common.{◌≡◌, ℕ, ◌<◌, map, get_or, refl, ap, ◌∙◌, arith}
use Rattle.std.specs.List.{range_with_len}
use Rattle.std.proofs.lemmas.List.FromFn.{get_or-map-range_with_len}
use Rattle.aes_core.specs.Word.{word_number}
use Rattle.snow3g.specs.{Octets.mulxpow, Alpha.div_alpha, Alpha.mul_alpha}
use Rattle.snow3g.specs.declared.alphas.TheConstants.{DIV_ALPHA, MUL_ALPHA}

all_mul_alpha : MUL_ALPHA ≡ map mul_alpha (range_with_len 0 256)
unfolding mul_alpha mulxpow word_number
all_mul_alpha = refl

pub mul_alpha-is : (x : ℕ) → x < 256 → get_or MUL_ALPHA x 0 ≡ mul_alpha x
mul_alpha-is x h = ap (λ xs. get_or xs x 0) all_mul_alpha ∙ get_or-map-range_with_len mul_alpha 0 256 x x 0 h (omega arith)

all_div_alpha : DIV_ALPHA ≡ map div_alpha (range_with_len 0 256)
unfolding div_alpha mulxpow word_number
all_div_alpha = refl

pub div_alpha-is : (x : ℕ) → x < 256 → get_or DIV_ALPHA x 0 ≡ div_alpha x
div_alpha-is x h = ap (λ xs. get_or xs x 0) all_div_alpha ∙ get_or-map-range_with_len div_alpha 0 256 x x 0 h (omega arith)
