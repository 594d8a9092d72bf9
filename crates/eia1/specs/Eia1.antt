-- 128-EIA1: a polynomial over GF(2^64) with keystream of SNOW 3G as its point (TS 33.401 B.2.2; TS 35.215 4, whose
-- clause numbers are from memory).
use Rattle.std.specs.Prelude.{ℕ, zero, suc, ◌+◌, ◌*◌, ◌/◌, ◌%◌, ◌^◌, List, [], ◌∷◌, bit_xor, length, map, slice_index}
use Rattle.std.specs.List.{range_with_len}
use Rattle.rec_base.specs.{BigEndian.number_of, BigEndian.octets_of, declared.uses.Dir.Dir, Header.direction_of}
use Rattle.snow3g.specs.State.{initialised, keystream_word}
use Rattle.eia1.specs.Polynomial.{multiply}

-- FRESH, which is BEARER and 27 zero bits (33.401 B.2.2)
abbrev pub fresh : ℕ → ℕ
fresh bearer = bearer * 2 ^ 27

-- IV0 to IV3 (35.215 4.4)
unfoldable pub eia1_iv : ℕ → ℕ → Dir → List ℕ
eia1_iv count bearer dir =
    bit_xor (fresh bearer) (direction_of dir * 2 ^ 15)
    ∷ bit_xor count (direction_of dir * 2 ^ 31)
    ∷ fresh bearer ∷ count ∷ []

-- word n of the keystream, z1 being word 0
unfoldable pub eia1_word : List ℕ → ℕ → ℕ → Dir → ℕ → ℕ
eia1_word key count bearer dir n = keystream_word (initialised key (eia1_iv count bearer dir)) n

-- the number of 64 bits in the words n and n + 1
abbrev pub two_words : (ℕ → ℕ) → ℕ → ℕ
two_words z n = z n * 2 ^ 32 + z (n + 1)

-- block i of a text, of 64 bits, with zeros behind the end (4.5)
unfoldable pub block_in : List ℕ → ℕ → ℕ
block_in text i = number_of (map (λ k. slice_index text (8 * i + k)) (range_with_len 0 8))

-- what n blocks evaluate to at the point p (4.5)
unfoldable pub evaluated : List ℕ → ℕ → ℕ → ℕ
evaluated text p zero = 0
evaluated text p (suc n) = multiply (bit_xor (evaluated text p n) (block_in text n)) p

-- how many blocks a text has
abbrev pub blocks_of : List ℕ → ℕ
blocks_of text = (length text + 7) / 8

-- the number of 64 bits behind the last step: LENGTH, in bits, is added, and the product with Q is taken (4.5)
abbrev pub closed : List ℕ → ℕ → ℕ → ℕ
closed text p q = multiply (bit_xor (evaluated text p (blocks_of text)) (length text * 8 % 2 ^ 64)) q

-- the MAC by the words of the keystream: P is z1 and z2, Q is z3 and z4, and z5 is added to the left half (4.5)
unfoldable pub mac_by_words : (ℕ → ℕ) → List ℕ → List ℕ
mac_by_words z text = octets_of 4 (bit_xor (closed text (two_words z 0) (two_words z 2) / 2 ^ 32) (z 4))

-- the MAC, of four octets
unfoldable pub eia1_of : List ℕ → ℕ → ℕ → Dir → List ℕ → List ℕ
eia1_of key count bearer dir text = mac_by_words (eia1_word key count bearer dir) text
