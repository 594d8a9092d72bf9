-- The product in the field with 2, at each octet.
use Rattle.std.proofs.Common.{◌≡◌, ℕ, ◌*◌, ◌/◌, ◌%◌, ◌<◌, map, get_or, refl, ap, sym, ◌∙◌, arith}
use Rattle.std.specs.{Prelude.bit_xor, List.range_with_len}
use Rattle.std.proofs.lemmas.List.FromFn.{get_or-map-range_with_len}
use Rattle.aes_core.specs.Field.{multiply}

-- two functions with one list of values for 0 to n - 1 agree at each of them
pub same_at : (f g : ℕ → ℕ) (n : ℕ) → map f (range_with_len 0 n) ≡ map g (range_with_len 0 n) → (x : ℕ) → x < n → f x ≡ g x
same_at f g n e x h =
    sym (get_or-map-range_with_len f 0 n x x 0 h (omega arith))
    ∙ ap (λ xs. get_or xs x 0) e
    ∙ get_or-map-range_with_len g 0 n x x 0 h (omega arith)

-- the octet one bit up, and less the modulus where that has x^8 (4.2.1)
abbrev pub shifted : ℕ → ℕ
shifted x = bit_xor (x * 2 % 256) (x / 128 * 27)

shifted_all : map (multiply 2) (range_with_len 0 256) ≡ map shifted (range_with_len 0 256)
unfolding multiply
shifted_all = refl

pub multiply-two : (x : ℕ) → x < 256 → multiply 2 x ≡ shifted x
multiply-two = same_at (multiply 2) shifted 256 shifted_all
