-- The S-boxes S1 and S2 on words of 32 bits (TS 35.216 3.3; the clause numbers are from memory).
use Rattle.std.specs.Prelude.{ℕ, zero, suc, ◌+◌, ◌*◌, ◌^◌, List, [], ◌∷◌, bit_xor, fold, map, slice_index}
use Rattle.std.specs.Int.{bit_at}
use Rattle.aes_core.specs.{SBox.sub_byte, Word.word_number, Word.word_octets}
use Rattle.snow3g.specs.Octets.{mulx}

-- x^8 + x^6 + x^5 + x^3 + 1, the modulus of SQ (3.3.2)
abbrev pub modulus : ℕ
modulus = 0x169

-- the product of two polynomials, b of degree below n
abbrev pub product : ℕ → ℕ → ℕ → ℕ
product a b zero = 0
product a b (suc n) = bit_xor (product a b n) (bit_at b n * (a * 2 ^ n))

-- what is left of a polynomial of degree below 8 + n modulo the modulus
abbrev pub remainder : ℕ → ℕ → ℕ
remainder p zero = p
remainder p (suc n) = remainder (bit_xor p (bit_at p (8 + n) * (modulus * 2 ^ n))) n

-- an octet to a power in the field of SQ
unfoldable pub power : ℕ → ℕ → ℕ
power x zero = 1
power x (suc n) = remainder (product x (power x n) 8) 7

-- the powers whose sum, with 25 hex, is SQ: the terms of the Dickson polynomial of degree 49 (3.3.2)
abbrev pub sq_powers : List ℕ
sq_powers = 1 ∷ 9 ∷ 13 ∷ 15 ∷ 33 ∷ 41 ∷ 45 ∷ 47 ∷ 49 ∷ []

-- SQ: the S-box of S2 on octets (3.3.2)
unfoldable pub sq : ℕ → ℕ
sq x = fold bit_xor 0x25 (map (power x) sq_powers)

-- what S1 and S2 make of the four octets behind their S-box, from the highest on: the column product with x,
-- 1, 1 and x + 1, where x^8 is c (3.3.1)
abbrev pub mixed : ℕ → List ℕ → List ℕ
mixed c w =
    let a = slice_index w 0 in
    let b = slice_index w 1 in
    let d = slice_index w 2 in
    let e = slice_index w 3 in
    bit_xor (bit_xor (bit_xor (mulx a c) b) d) (bit_xor (mulx e c) e)
    ∷ bit_xor (bit_xor (bit_xor (bit_xor (mulx a c) a) (mulx b c)) d) e
    ∷ bit_xor (bit_xor (bit_xor a (bit_xor (mulx b c) b)) (mulx d c)) e
    ∷ bit_xor (bit_xor (bit_xor a b) (bit_xor (mulx d c) d)) (mulx e c) ∷ []

-- S1, of the S-box of AES (3.3.1)
unfoldable pub s1 : ℕ → ℕ
s1 w = word_number (mixed 0x1b (map sub_byte (word_octets w)))

-- S2, of SQ (3.3.2)
unfoldable pub s2 : ℕ → ℕ
s2 w = word_number (mixed 0x69 (map sq (word_octets w)))
