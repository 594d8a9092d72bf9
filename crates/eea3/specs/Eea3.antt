-- 128-EEA3: ZUC as a stream cipher (TS 33.401 B.1.4; TS 35.221 3, whose clause numbers are from memory).
use Rattle.std.specs.Prelude.{ℕ, List, ◌++◌}
use Rattle.keystream.specs.Combined.{combined, octet_in}
use Rattle.rec_base.specs.{declared.uses.Dir.Dir, Header.header_of}
use Rattle.zuc.specs.State.{initialised, keystream_word}

-- the IV: COUNT, BEARER, DIRECTION and 26 zero bits, twice (35.221 3.3)
unfoldable pub eea3_iv : ℕ → ℕ → Dir → List ℕ
eea3_iv count bearer dir = header_of count bearer dir ++ header_of count bearer dir

-- word n of the keystream
unfoldable pub eea3_word : List ℕ → ℕ → ℕ → Dir → ℕ → ℕ
eea3_word key count bearer dir n = keystream_word (initialised key (eea3_iv count bearer dir)) n

-- the text combined with the keystream, which both ciphers and deciphers (33.401 B.1.1)
unfoldable pub eea3_of : List ℕ → ℕ → ℕ → Dir → List ℕ → List ℕ
eea3_of key count bearer dir text = combined (octet_in (eea3_word key count bearer dir)) 0 text
