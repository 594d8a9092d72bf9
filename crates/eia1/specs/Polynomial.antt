-- The field GF(2^64) of 128-EIA1 (TS 35.215 4.3, from memory). A number below 2^64 stands for a
-- polynomial: bit i is the coefficient of x^i. The sum of two is `bit_xor`.
use Rattle.std.specs.Prelude.{ℕ, zero, suc, ◌*◌, ◌%◌, ◌^◌, bit_xor}
use Rattle.std.specs.Int.{bit_at}

-- MUL64x: the product with x modulo x^64 + x^4 + x^3 + x + 1
abbrev pub times_x : ℕ → ℕ
times_x v = bit_xor (v * 2 % 2 ^ 64) (bit_at v 63 * 0x1b)

-- MUL64xPOW: the product with x to the power i
unfoldable pub times_power : ℕ → ℕ → ℕ
times_power v zero = v
times_power v (suc i) = times_x (times_power v i)

-- the sum of v times x^i over the bits i below n of p
unfoldable pub terms : ℕ → ℕ → ℕ → ℕ
terms v p zero = 0
terms v p (suc i) = bit_xor (terms v p i) (bit_at p i * times_power v i)

-- MUL64: the product
unfoldable pub multiply : ℕ → ℕ → ℕ
multiply v p = terms v p 64
