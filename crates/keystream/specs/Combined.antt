-- A text combined with a keystream, which both ciphers and deciphers (TS 33.401 B.1.1).
use Rattle.std.specs.Prelude.{ℕ, ◌/◌, ◌%◌, List, bit_xor, map, slice_index}
use Rattle.std.specs.List.{enumerate_from}
use Rattle.rec_base.specs.BigEndian.{octets_of}

-- the octets from place i on, each combined with the octet that the stream has at its place
unfoldable pub combined : (ℕ → ℕ) → ℕ → List ℕ → List ℕ
combined stream i octets = map (λ p. bit_xor p.1 (stream p.0)) (enumerate_from i octets)

-- octet i of the words of a keystream of 32 bits each, the highest octet of a word first
unfoldable pub octet_in : (ℕ → ℕ) → ℕ → ℕ
octet_in words i = slice_index (octets_of 4 (words (i / 4))) (i % 4)
