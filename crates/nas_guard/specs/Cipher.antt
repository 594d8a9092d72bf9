-- The ciphering and the integrity algorithm under an algorithm key (TS 33.401 B.1, B.2 and A.7).
use Rattle.std.specs.Prelude.{ℕ, List, drop}
use Rattle.alg_choice.specs.declared.algs.Eea.{Eea}
use Rattle.alg_choice.specs.declared.algs.Eea.TheVariants.{Eea0, Eea2}
use Rattle.rec_base.specs.declared.uses.Dir.{Dir}
use Rattle.ctr_eea2.specs.Eea2.{eea2_of}
use Rattle.cmac_eia2.specs.Eia2.{eia2_of}

-- a text ciphered under an algorithm key, COUNT, BEARER and DIRECTION, or deciphered: EEA0 leaves it as
-- it is, and 128-EEA2 takes the last 16 octets of the key (B.1.1 and A.7)
unfoldable pub ciphered : Eea → List ℕ → ℕ → ℕ → Dir → List ℕ → List ℕ
ciphered Eea0 key count bearer dir text = text
ciphered Eea2 key count bearer dir text = eea2_of (drop 16 key) count bearer dir text

-- the MAC of 128-EIA2, which takes the last 16 octets of the key (B.2.1 and A.7)
unfoldable pub mac_of : List ℕ → ℕ → ℕ → Dir → List ℕ → List ℕ
mac_of key count bearer dir text = eia2_of (drop 16 key) count bearer dir text
