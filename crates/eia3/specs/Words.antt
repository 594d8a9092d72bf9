-- What the code holds of a keystream and of a text: words.
use Rattle.std.specs.Prelude.{◌≡◌, ℕ, zero, suc, ◌+◌, ◌-◌, ◌*◌, ◌/◌, ◌%◌, ◌^◌, ◌<◌, List, bit_xor, map, slice_index}
use Rattle.std.specs.{Int.bit_at, List.range_with_len}
use Rattle.rec_base.specs.BigEndian.{number_of}

-- sixteen words of a stream from its first one on, and the word behind them
pub record HasWords (z : ℕ → ℕ) (words : List ℕ) (next : ℕ) : Type 0 where
  pub first : (i : ℕ) → i < 16 → slice_index words i ≡ z i
  pub behind : next ≡ z 16

-- word i of a text as a number, with zeros behind the end
unfoldable pub number_in : List ℕ → ℕ → ℕ
number_in text i = number_of (map (λ k. slice_index text (4 * i + k)) (range_with_len 0 4))

-- the sum of the windows into two words at the highest n bits of a word that are 1
unfoldable pub word_sum : ℕ → ℕ → ℕ → ℕ → ℕ
word_sum m high low zero = 0
word_sum m high low (suc i) =
    bit_xor (word_sum m high low i) (bit_at m (31 - i) * ((high * 2 ^ 32 + low) / 2 ^ (32 - i) % 2 ^ 32))
