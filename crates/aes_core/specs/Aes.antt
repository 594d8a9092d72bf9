-- AES with a key of 16 octets: the Cipher of FIPS 197 with ten rounds (5.1), on lists of octets.
-- A state is a list of 16 octets, with row r and column c of the standard's array at place r + 4 c:
-- so a block is a state as it stands (3.4).
use Rattle.std.specs.Prelude.{ℕ, zero, suc, ◌+◌, ◌*◌, ◌/◌, ◌%◌, List, bit_xor, map, slice_index}
use Rattle.std.specs.List.{range_with_len}
use Rattle.aes_core.specs.{Field.multiply, SBox.sub_byte, KeyExpansion.key_expansion, KeyExpansion.word_at}

-- the octet of a state in row r and column c (3.4)
abbrev pub octet_at : List ℕ → ℕ → ℕ → ℕ
octet_at s r c = slice_index s (r + 4 * c)

-- the state that has f r c in row r and column c (3.4)
abbrev pub state_of : (ℕ → ℕ → ℕ) → List ℕ
state_of f = map (λ k. f (k % 4) (k / 4)) (range_with_len 0 16)

-- SubBytes: the S-box at each octet (5.1.1)
unfoldable pub sub_bytes : List ℕ → List ℕ
sub_bytes s = map sub_byte s

-- ShiftRows: row r turns left by r places (5.1.2)
unfoldable pub shift_rows : List ℕ → List ℕ
shift_rows s = state_of (λ r c. octet_at s r ((c + r) % 4))

-- the sum of 2, 3, 1 and 1 times the octets of column c, taken from row r on and round (5.1.3)
abbrev pub mixed_octet : List ℕ → ℕ → ℕ → ℕ
mixed_octet s r c =
    bit_xor (bit_xor (bit_xor
    (multiply 2 (octet_at s r c)) (multiply 3 (octet_at s ((r + 1) % 4) c)))
    (octet_at s ((r + 2) % 4) c)) (octet_at s ((r + 3) % 4) c)

-- MixColumns: the column product at each octet (5.1.3)
unfoldable pub mix_columns : List ℕ → List ℕ
mix_columns s = state_of (mixed_octet s)

-- the octet of round key n in row r and column c: column c is word 4 n + c (5.1.4)
abbrev pub key_octet : List (List ℕ) → ℕ → ℕ → ℕ → ℕ
key_octet ws n r c = slice_index (word_at ws (4 * n + c)) r

-- AddRoundKey: the sum of a state and round key n (5.1.4)
unfoldable pub add_round_key : List ℕ → List (List ℕ) → ℕ → List ℕ
add_round_key s ws n = state_of (λ r c. bit_xor (octet_at s r c) (key_octet ws n r c))

-- the state after the first round key is added to the block, and then n rounds (5.1)
unfoldable pub after_rounds : List (List ℕ) → List ℕ → ℕ → List ℕ
after_rounds ws block zero = add_round_key block ws 0
after_rounds ws block (suc n) =
    add_round_key (mix_columns (shift_rows (sub_bytes (after_rounds ws block n)))) ws (suc n)

-- ten rounds, of which the last has no MixColumns (5.1)
unfoldable pub cipher : List (List ℕ) → List ℕ → List ℕ
cipher ws block = add_round_key (shift_rows (sub_bytes (after_rounds ws block 9))) ws 10

-- AES of a block of 16 octets under a key of 16 octets (5.1)
unfoldable pub aes : List ℕ → List ℕ → List ℕ
aes key block = cipher (key_expansion key) block
