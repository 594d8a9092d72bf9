-- What the ciphering and the integrity algorithm put before everything else.
use Rattle.std.specs.Prelude.{ℕ, ◌+◌, ◌*◌, List, [], ◌∷◌, ◌++◌}
use Rattle.rec_base.specs.{BigEndian.octets_of, declared.uses.Dir.Dir}
use Rattle.rec_base.specs.declared.uses.Dir.TheVariants.{Up, Down}

-- DIRECTION (TS 33.401 B.1.1 and B.2.1)
abbrev pub direction_of : Dir → ℕ
direction_of Up = 0
direction_of Down = 1

-- COUNT in 32 bits, BEARER in 5, DIRECTION in 1 and 26 zero bits (TS 33.401 B.1.3 and B.2.3)
unfoldable pub header_of : ℕ → ℕ → Dir → List ℕ
header_of count bearer dir =
    octets_of 4 count ++ (8 * bearer + 4 * direction_of dir) ∷ 0 ∷ 0 ∷ 0 ∷ []
