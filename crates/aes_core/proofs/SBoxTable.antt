-- The table of the code against the S-box, and the inverse against the product.
use Rattle.std.proofs.Common.{◌≡◌, ℕ, ◌-◌, ◌<◌, map, get_or, replicate, refl, sym, ap, ◌∙◌, arith}
use Rattle.std.specs.List.{range_with_len}
use Rattle.std.proofs.{lemmas.List.get_or-replicate, lemmas.List.FromFn.get_or-map-range_with_len}
use Rattle.aes_core.specs.{Field.multiply, declared.s_box.TheConstants.S_BOX}
use Rattle.aes_core.specs.SBox.{affine, inverse, sub_byte}

all_entries : S_BOX ≡ map sub_byte (range_with_len 0 256)
unfolding sub_byte inverse affine multiply
all_entries = refl

-- the rule at one entry
pub get_or-S_BOX : (x : ℕ) → x < 256 → get_or S_BOX x 0 ≡ sub_byte x
get_or-S_BOX x h =
    ap (λ xs. get_or xs x 0) all_entries ∙ get_or-map-range_with_len sub_byte 0 256 x x 0 h (omega arith)

all_inverses : map (λ x. multiply x (inverse x)) (range_with_len 1 255) ≡ replicate 255 1
unfolding inverse multiply
all_inverses = refl

-- the inverse of an octet other than 0
pub multiply-inverse : (x : ℕ) → 0 < x → x < 256 → multiply x (inverse x) ≡ 1
multiply-inverse x low high =
    sym (get_or-map-range_with_len (λ y. multiply y (inverse y)) 1 255 (x - 1) x 0 (omega arith) (omega arith))
    ∙ ap (λ ys. get_or ys (x - 1) 0) all_inverses
    ∙ get_or-replicate 255 (x - 1) 1 0 (omega arith)
