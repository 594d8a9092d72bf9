-- 128-EEA2: AES in counter mode (TS 33.401 B.1.3).
use Rattle.std.specs.Prelude.{ℕ, ◌/◌, ◌%◌, List, ◌++◌, slice_index}
use Rattle.aes_core.specs.Aes.{aes}
use Rattle.keystream.specs.Combined.{combined}
use Rattle.rec_base.specs.{declared.uses.Dir.Dir, BigEndian.octets_of, Header.header_of}

-- counter block n: COUNT, BEARER, DIRECTION and 26 zero bits, and then n in 64 bits (B.1.3)
abbrev pub counter_block : ℕ → ℕ → Dir → ℕ → List ℕ
counter_block count bearer dir n = header_of count bearer dir ++ octets_of 8 n

-- octet i of the joined encryptions of the counter blocks 0, 1, 2 and so on (B.1.3)
unfoldable pub keystream_octet : List ℕ → ℕ → ℕ → Dir → ℕ → ℕ
keystream_octet key count bearer dir i =
    slice_index (aes key (counter_block count bearer dir (i / 16))) (i % 16)

-- the text combined with the keystream, which both ciphers and deciphers (B.1.1)
unfoldable pub eea2_of : List ℕ → ℕ → ℕ → Dir → List ℕ → List ℕ
eea2_of key count bearer dir text = combined (keystream_octet key count bearer dir) 0 text
