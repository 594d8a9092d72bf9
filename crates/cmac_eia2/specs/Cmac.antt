-- CMAC with AES (NIST SP 800-38B, RFC 4493), on lists of octets. Section numbers are those of
-- SP 800-38B.
use Rattle.std.specs.Prelude.{ℕ, ◌-◌, ◌*◌, ◌/◌, ◌%◌, ◌^◌, ◌==◌, nat_lt, if◌then◌else◌, List, [], ◌∷◌, ◌++◌, bit_xor, drop, fold, length, map, replicate, slice_index, take}
use Rattle.std.specs.List.{range_with_len}
use Rattle.aes_core.specs.Aes.{aes}
use Rattle.rec_base.specs.BigEndian.{number_of, octets_of}

-- the block of 16 zero octets
abbrev pub zero_block : List ℕ
zero_block = replicate 16 0

-- the sum of two blocks, octet by octet
unfoldable pub xor_blocks : List ℕ → List ℕ → List ℕ
xor_blocks a b = map (λ i. bit_xor (slice_index a i) (slice_index b i)) (range_with_len 0 16)

-- twice a block in GF(2^128): it is shifted left by one bit, and 87 hex is added where its highest
-- bit was set (5.3, 6.1)
unfoldable pub doubled : List ℕ → List ℕ
doubled block =
    let n = number_of block in
    let shifted = 2 * n % 2 ^ 128 in
    octets_of 16 (if nat_lt n (2 ^ 127) then shifted else bit_xor shifted 0x87)

-- the subkeys K1 and K2 (6.1)
abbrev pub first_subkey : List ℕ → List ℕ
first_subkey key = doubled (aes key zero_block)

abbrev pub second_subkey : List ℕ → List ℕ
second_subkey key = doubled (first_subkey key)

-- a last block that is not full, with 80 hex and zeros behind it (6.2, step 4)
abbrev pub padded : List ℕ → List ℕ
padded last = last ++ 0x80 ∷ replicate (15 - length last) 0

-- the last block takes the first subkey where it is full, and is else padded and takes the second
-- (6.2, step 4)
abbrev pub masked_last : List ℕ → List ℕ → List ℕ
masked_last key last =
    if length last == 16 then xor_blocks last (first_subkey key)
    else xor_blocks (padded last) (second_subkey key)

-- block i of a message, from 0 on
abbrev pub block_at : List ℕ → ℕ → List ℕ
block_at message i = take 16 (drop (16 * i) message)

-- how many blocks of a message stand before its last one; the empty message has one block (6.2,
-- step 2)
abbrev pub blocks_before : List ℕ → ℕ
blocks_before message = (length message - 1) / 16

-- one more block: added to what is chained, and encrypted (6.2, step 6)
abbrev pub chained : List ℕ → List ℕ → List ℕ → List ℕ
chained key before block = aes key (xor_blocks before block)

-- the CMAC of a message under a key, of 16 octets (6.2)
unfoldable pub cmac_of : List ℕ → List ℕ → List ℕ
cmac_of key message =
    let before = blocks_before message in
    let blocks = map (block_at message) (range_with_len 0 before) in
    let last = masked_last key (drop (16 * before) message) in
    fold (chained key) zero_block (blocks ++ last ∷ [])
