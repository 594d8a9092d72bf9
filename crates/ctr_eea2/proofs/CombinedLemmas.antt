-- Laws of a text combined with the keystream.
use Rattle.std.proofs.Common.{◌≡◌, ℕ, ◌+◌, ◌*◌, ◌/◌, ◌%◌, ◌<◌, List, ◌++◌, length, slice_index, refl, arith}
use Rattle.aes_core.specs.Aes.{aes}
use Rattle.keystream.proofs.CombinedLemmas.{combined-combined, length-combined}
use Rattle.rec_base.specs.{declared.uses.Dir.Dir, BigEndian.octets_of, Header.header_of}
use Rattle.ctr_eea2.specs.Eea2.{eea2_of, keystream_octet}

-- the length is kept
pub length-eea2_of : (key : List ℕ) (count bearer : ℕ) (dir : Dir) (text : List ℕ)
    → length (eea2_of key count bearer dir text) ≡ length text
unfolding eea2_of
length-eea2_of key count bearer dir text = length-combined (keystream_octet key count bearer dir) 0 text

-- to cipher twice gives the text back
pub eea2_of-eea2_of : (key : List ℕ) (count bearer : ℕ) (dir : Dir) (text : List ℕ)
    → eea2_of key count bearer dir (eea2_of key count bearer dir text) ≡ text
unfolding eea2_of
eea2_of-eea2_of key count bearer dir text = combined-combined (keystream_octet key count bearer dir) 0 text

-- the keystream over one counter block
pub keystream_octet_at : (key : List ℕ) (count bearer : ℕ) (dir : Dir) (n k : ℕ) → k < 16
    → keystream_octet key count bearer dir (16 * n + k) ≡ slice_index (aes key (header_of count bearer dir ++ octets_of 8 n)) k
unfolding keystream_octet
keystream_octet_at key count bearer dir n k h =
    let block : (16 * n + k) / 16 ≡ n = omega arith in
    let place : (16 * n + k) % 16 ≡ k = omega arith in
    rw (block, place) refl
