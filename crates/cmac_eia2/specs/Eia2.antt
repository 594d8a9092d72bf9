-- 128-EIA2: AES in CMAC mode (TS 33.401 B.2.3).
use Rattle.std.specs.Prelude.{ℕ, List, ◌++◌, take}
use Rattle.rec_base.specs.{declared.uses.Dir.Dir, Header.header_of}
use Rattle.cmac_eia2.specs.Cmac.{cmac_of}

-- the first four octets of the CMAC over COUNT, BEARER, DIRECTION, 26 zero bits and the text
unfoldable pub eia2_of : List ℕ → ℕ → ℕ → Dir → List ℕ → List ℕ
eia2_of key count bearer dir text = take 4 (cmac_of key (header_of count bearer dir ++ text))
