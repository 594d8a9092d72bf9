-- The S-boxes S0 and S1 of ZUC (its specification, TS 35.222, 3.4.2; the clause numbers are from memory).
use Rattle.std.specs.Prelude.{ℕ, zero, suc, ◌+◌, ◌*◌, ◌/◌, ◌%◌, ◌^◌, ◌==◌, List, [], ◌∷◌, bit_xor, find, map, slice_index, sum, unwrap_or}
use Rattle.std.specs.{Int.bit_at, List.range_with_len}

-- the three tables of four bits that S0 is made of
abbrev pub p1 : List ℕ
p1 = 9 ∷ 15 ∷ 0 ∷ 14 ∷ 15 ∷ 15 ∷ 2 ∷ 10 ∷ 0 ∷ 4 ∷ 0 ∷ 12 ∷ 7 ∷ 5 ∷ 3 ∷ 9 ∷ []

abbrev pub p2 : List ℕ
p2 = 8 ∷ 13 ∷ 6 ∷ 5 ∷ 7 ∷ 0 ∷ 12 ∷ 4 ∷ 11 ∷ 1 ∷ 14 ∷ 10 ∷ 15 ∷ 3 ∷ 9 ∷ 2 ∷ []

abbrev pub p3 : List ℕ
p3 = 2 ∷ 6 ∷ 10 ∷ 6 ∷ 0 ∷ 13 ∷ 10 ∷ 15 ∷ 3 ∷ 3 ∷ 13 ∷ 5 ∷ 0 ∷ 9 ∷ 12 ∷ 13 ∷ []

-- an octet turned left by five bits
abbrev pub turned_by_five : ℕ → ℕ
turned_by_five y = (y * 32 + y / 8) % 256

-- S0: three rounds over the halves of the octet, and a turn
unfoldable pub s0 : ℕ → ℕ
s0 x =
    let q = bit_xor (x / 16) (slice_index p1 (x % 16)) in
    let r = bit_xor (x % 16) (slice_index p2 q) in
    turned_by_five (bit_xor q (slice_index p3 r) * 16 + r)

-- x^8 + x^7 + x^3 + x + 1, the modulus of S1
abbrev pub modulus : ℕ
modulus = 0x18b

-- the product of two polynomials, b of degree below n
abbrev pub product : ℕ → ℕ → ℕ → ℕ
product a b zero = 0
product a b (suc n) = bit_xor (product a b n) (bit_at b n * (a * 2 ^ n))

-- what is left of a polynomial of degree below 8 + n modulo the modulus
abbrev pub remainder : ℕ → ℕ → ℕ
remainder p zero = p
remainder p (suc n) = remainder (bit_xor p (bit_at p (8 + n) * (modulus * 2 ^ n))) n

-- the product in the field
unfoldable pub multiply : ℕ → ℕ → ℕ
multiply a b = remainder (product a b 8) 7

-- the octet whose product with x is 1, and 0 for 0
unfoldable pub inverse : ℕ → ℕ
inverse x = unwrap_or (find (λ y. multiply x y == 1) (range_with_len 0 256)) 0

-- the rows of the matrix of S1: bit k of row i says whether bit k of the inverse counts for bit i
abbrev pub rows : List ℕ
rows = 0xed ∷ 0xdb ∷ 0xb7 ∷ 0x7e ∷ 0xe3 ∷ 0xd6 ∷ 0xbc ∷ 0x79 ∷ []

-- whether the number of ones that two octets share is odd
abbrev pub parity : ℕ → ℕ → ℕ
parity a b = sum (map (λ k. bit_at a k * bit_at b k) (range_with_len 0 8)) % 2

-- bit i of the affine map of b, with the constant 55 hex
abbrev pub affine_bit : ℕ → ℕ → ℕ
affine_bit b i = (parity b (slice_index rows i) + bit_at 0x55 i) % 2

unfoldable pub affine : ℕ → ℕ
affine b = sum (map (λ i. affine_bit b i * 2 ^ i) (range_with_len 0 8))

-- S1: the affine map of the inverse
unfoldable pub s1 : ℕ → ℕ
s1 x = affine (inverse x)

-- S: the boxes S0, S1, S0, S1 on the octets of a word, from the highest on
unfoldable pub boxes : ℕ → ℕ
boxes w = s0 (w / 2 ^ 24) * 2 ^ 24 + s1 (w / 2 ^ 16 % 256) * 2 ^ 16 + s0 (w / 2 ^ 8 % 256) * 2 ^ 8 + s1 (w % 256)
