-- Words of four octets as numbers of 32 bits, the octet of row 0 highest (FIPS 197, 3.5).
use Rattle.std.specs.Prelude.{ℕ, ◌+◌, ◌*◌, ◌/◌, ◌%◌, ◌^◌, List, [], ◌∷◌, ◌++◌, map, slice_index}
use Rattle.std.specs.List.{range_with_len}
use Rattle.aes_core.specs.{Aes.mixed_octet, declared.state.State.State}

-- the four octets of a word
unfoldable pub word_octets : ℕ → List ℕ
word_octets w = w / 2 ^ 24 % 256 ∷ w / 2 ^ 16 % 256 ∷ w / 2 ^ 8 % 256 ∷ w % 256 ∷ []

-- the 16 octets of a state that is held as its columns (3.5)
abbrev pub state_octets : State → List ℕ
state_octets s = word_octets s.0 ++ (word_octets s.1 ++ (word_octets s.2 ++ word_octets s.3))

-- the octets that ShiftRows brings into one column: row r of the r-th of these columns (5.1.2)
abbrev pub diagonal : ℕ → ℕ → ℕ → ℕ → List ℕ
diagonal a b c d =
    slice_index (word_octets a) 0 ∷ slice_index (word_octets b) 1 ∷ slice_index (word_octets c) 2
    ∷ slice_index (word_octets d) 3 ∷ []

-- MixColumns at one column (5.1.3)
abbrev pub mixed_column : List ℕ → List ℕ
mixed_column column = map (λ r. mixed_octet column r 0) (range_with_len 0 4)

-- the word of four octets
unfoldable pub word_number : List ℕ → ℕ
word_number w =
    slice_index w 0 * 2 ^ 24 + slice_index w 1 * 2 ^ 16 + slice_index w 2 * 2 ^ 8 + slice_index w 3
