-- 128-EIA3: a sum of windows of the keystream of ZUC (TS 33.401 B.2.4; TS 35.221 4, whose clause numbers are from memory).
use Rattle.std.specs.Prelude.{ℕ, zero, suc, ◌+◌, ◌-◌, ◌*◌, ◌/◌, ◌%◌, ◌^◌, List, ◌++◌, bit_xor, length, slice_index, slice_set}
use Rattle.std.specs.Int.{bit_at}
use Rattle.rec_base.specs.{BigEndian.octets_of, declared.uses.Dir.Dir, declared.uses.Dir.TheVariants.Up, Header.direction_of, Header.header_of}
use Rattle.zuc.specs.State.{initialised, keystream_word}

-- COUNT, BEARER and 27 zero bits (35.221 4.3)
abbrev pub half_iv : ℕ → ℕ → List ℕ
half_iv count bearer = header_of count bearer Up

-- the octet at a place with DIRECTION added to its highest bit
abbrev pub with_direction : List ℕ → ℕ → Dir → List ℕ
with_direction octets i dir = slice_set octets i (bit_xor (slice_index octets i) (direction_of dir * 128))

-- the IV: that twice, with DIRECTION in octets 8 and 14 (35.221 4.3)
unfoldable pub eia3_iv : ℕ → ℕ → Dir → List ℕ
eia3_iv count bearer dir =
    half_iv count bearer ++ with_direction (with_direction (half_iv count bearer) 0 dir) 6 dir

-- word n of the keystream
unfoldable pub eia3_word : List ℕ → ℕ → ℕ → Dir → ℕ → ℕ
eia3_word key count bearer dir n = keystream_word (initialised key (eia3_iv count bearer dir)) n

-- the 32 bits from bit i on of the words z (4.5)
unfoldable pub window : (ℕ → ℕ) → ℕ → ℕ
window z i = (z (i / 32) * 2 ^ 32 + z (i / 32 + 1)) / 2 ^ (32 - i % 32) % 2 ^ 32

-- bit i of a text, the highest bit of an octet first, and 0 behind the end
unfoldable pub text_bit : List ℕ → ℕ → ℕ
text_bit text i = bit_at (slice_index text (i / 8)) (7 - i % 8)

-- the sum of the windows at the bits below n that are 1 in the text (4.5)
unfoldable pub sums : (ℕ → ℕ) → List ℕ → ℕ → ℕ
sums z text zero = 0
sums z text (suc i) = bit_xor (sums z text i) (text_bit text i * window z i)

-- the MAC of a text of n bits by the words of the keystream: the sum, the window behind it, and the last word (4.5)
abbrev pub mac_number : (ℕ → ℕ) → List ℕ → ℕ → ℕ
mac_number z text n = bit_xor (bit_xor (sums z text n) (window z n)) (z ((n + 31) / 32 + 1))

unfoldable pub mac_by_words : (ℕ → ℕ) → List ℕ → List ℕ
mac_by_words z text = octets_of 4 (mac_number z text (8 * length text))

-- the MAC, of four octets
unfoldable pub eia3_of : List ℕ → ℕ → ℕ → Dir → List ℕ → List ℕ
eia3_of key count bearer dir text = mac_by_words (eia3_word key count bearer dir) text
