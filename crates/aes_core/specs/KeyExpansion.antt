-- The key expansion of FIPS 197 for a key of 16 octets (5.2): 44 words of four octets each, of
-- which each four in turn are a round key.
use Rattle.std.specs.Prelude.{ℕ, zero, suc, ◌+◌, ◌-◌, ◌*◌, ◌/◌, ◌%◌, List, [], ◌∷◌, ◌++◌, ◌==◌, bit_xor, if◌then◌else◌, map, slice_index, slice_index_or}
use Rattle.std.specs.List.{range_with_len}
use Rattle.aes_core.specs.{Field.power_of_x, SBox.sub_byte}

-- a word turned left by one octet (RotWord, 5.2)
abbrev pub rot_word : List ℕ → List ℕ
rot_word w = slice_index w 1 ∷ slice_index w 2 ∷ slice_index w 3 ∷ slice_index w 0 ∷ []

-- the S-box at each octet of a word (SubWord, 5.2)
abbrev pub sub_word : List ℕ → List ℕ
sub_word w = map sub_byte w

-- the round constant i, from 1 on: x^(i - 1), and three octets 0 (Rcon, 5.2)
abbrev pub rcon : ℕ → List ℕ
rcon i = power_of_x (i - 1) ∷ 0 ∷ 0 ∷ 0 ∷ []

-- the sum of two words
abbrev pub add_words : List ℕ → List ℕ → List ℕ
add_words v w =
    bit_xor (slice_index v 0) (slice_index w 0) ∷ bit_xor (slice_index v 1) (slice_index w 1)
    ∷ bit_xor (slice_index v 2) (slice_index w 2) ∷ bit_xor (slice_index v 3) (slice_index w 3) ∷ []

-- word i of a list of words
abbrev pub word_at : List (List ℕ) → ℕ → List ℕ
word_at ws i = slice_index_or ws i []

-- what word i takes from the word w before it: at each fourth word RotWord, SubWord and Rcon (5.2)
unfoldable pub key_mask : List ℕ → ℕ → List ℕ
key_mask w i = if i % 4 == 0 then add_words (sub_word (rot_word w)) (rcon (i / 4)) else w

-- word i, from 4 on: the sum of that and of word i - 4 (5.2)
unfoldable pub next_word : List (List ℕ) → ℕ → List ℕ
next_word ws i = add_words (word_at ws (i - 4)) (key_mask (word_at ws (i - 1)) i)

-- the words before word i, and word i
abbrev pub with_next_word : List (List ℕ) → ℕ → List (List ℕ)
with_next_word ws i = ws ++ next_word ws i ∷ []

-- word i of the key, for i below 4 (5.2)
abbrev pub key_word : List ℕ → ℕ → List ℕ
key_word key i =
    slice_index key (4 * i) ∷ slice_index key (4 * i + 1) ∷ slice_index key (4 * i + 2)
    ∷ slice_index key (4 * i + 3) ∷ []

-- the first 4 + n words: those of the key, and n more
unfoldable pub first_words : List ℕ → ℕ → List (List ℕ)
first_words key zero = map (key_word key) (range_with_len 0 4)
first_words key (suc n) = with_next_word (first_words key n) (4 + n)

-- the 44 words, four for each of eleven round keys (5.2)
unfoldable pub key_expansion : List ℕ → List (List ℕ)
key_expansion key = first_words key 40
