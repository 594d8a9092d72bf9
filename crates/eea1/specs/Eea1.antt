-- 128-EEA1: SNOW 3G as a stream cipher (TS 33.401 B.1.2; TS 35.215 3, whose clause numbers are from memory).
use Rattle.std.specs.Prelude.{ℕ, ◌+◌, ◌*◌, ◌^◌, List, [], ◌∷◌}
use Rattle.keystream.specs.Combined.{combined, octet_in}
use Rattle.rec_base.specs.{declared.uses.Dir.Dir, Header.direction_of}
use Rattle.snow3g.specs.State.{initialised, keystream_word}

-- BEARER, DIRECTION and 26 zero bits (35.215 3.4)
abbrev pub bearer_word : ℕ → Dir → ℕ
bearer_word bearer dir = bearer * 2 ^ 27 + direction_of dir * 2 ^ 26

-- IV0 to IV3 (35.215 3.4)
unfoldable pub eea1_iv : ℕ → ℕ → Dir → List ℕ
eea1_iv count bearer dir = bearer_word bearer dir ∷ count ∷ bearer_word bearer dir ∷ count ∷ []

-- word n of the keystream
unfoldable pub eea1_word : List ℕ → ℕ → ℕ → Dir → ℕ → ℕ
eea1_word key count bearer dir n = keystream_word (initialised key (eea1_iv count bearer dir)) n

-- the text combined with the keystream, which both ciphers and deciphers (33.401 B.1.1)
unfoldable pub eea1_of : List ℕ → ℕ → ℕ → Dir → List ℕ → List ℕ
eea1_of key count bearer dir text = combined (octet_in (eea1_word key count bearer dir)) 0 text
