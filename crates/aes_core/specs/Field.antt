-- The field GF(2^8) of FIPS 197, whose sections the numbers in brackets name. An octet is a number
-- below 256 and stands for a polynomial: bit i is the coefficient of x^i (3.2, 4). The sum of two
-- polynomials is `bit_xor` (4.1).
use Rattle.std.specs.Prelude.{ℕ, zero, suc, ◌+◌, ◌*◌, ◌^◌, bit_xor}
use Rattle.std.specs.Int.{bit_at}

-- x^8 + x^4 + x^3 + x + 1 (4.2)
abbrev pub modulus : ℕ
modulus = 0x11b

-- the product of two polynomials, b of degree below n: the sum of a * x^i over each x^i in b (4.2)
abbrev pub product : ℕ → ℕ → ℕ → ℕ
product a b zero = 0
product a b (suc n) = bit_xor (product a b n) (bit_at b n * (a * 2 ^ n))

-- what is left of a polynomial p of degree below 8 + n modulo the modulus: each x^(8 + i) in it,
-- from the highest down, is taken away with the modulus times x^i (4.2)
abbrev pub remainder : ℕ → ℕ → ℕ
remainder p zero = p
remainder p (suc n) = remainder (bit_xor p (bit_at p (8 + n) * (modulus * 2 ^ n))) n

-- the product of two octets in the field: their product as polynomials, which has degree 14 at
-- most, modulo the modulus (4.2)
unfoldable pub multiply : ℕ → ℕ → ℕ
multiply a b = remainder (product a b 8) 7

-- x to the power n, where x is the octet 2 (4.2.1)
abbrev pub power_of_x : ℕ → ℕ
power_of_x zero = 1
power_of_x (suc n) = multiply 2 (power_of_x n)
