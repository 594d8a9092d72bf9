-- The ciphering and the integrity algorithms of TS 33.401 Annex B, by cases, under an algorithm key of 32 octets, of which they
-- take the last 16 (A.7).
use Rattle.std.specs.Prelude.{ℕ, List, drop, replicate}
use Rattle.alg_suite.specs.{declared.ciphering.Ciphering.Ciphering, declared.integrity.Integrity.Integrity}
use Rattle.alg_suite.specs.declared.ciphering.Ciphering.TheVariants.{Eea0, Eea1, Eea2, Eea3}
use Rattle.alg_suite.specs.declared.integrity.Integrity.TheVariants.{Eia0, Eia1, Eia2, Eia3}
use Rattle.cmac_eia2.specs.Eia2.{eia2_of}
use Rattle.ctr_eea2.specs.Eea2.{eea2_of}
use Rattle.eea1.specs.Eea1.{eea1_of}
use Rattle.eea3.specs.Eea3.{eea3_of}
use Rattle.eia1.specs.Eia1.{eia1_of}
use Rattle.eia3.specs.Eia3.{eia3_of}
use Rattle.rec_base.specs.declared.uses.Dir.{Dir}

-- the algorithm identity (5.1.3.2)
abbrev pub eea_identity : Ciphering → ℕ
eea_identity Eea0 = 0
eea_identity Eea1 = 1
eea_identity Eea2 = 2
eea_identity Eea3 = 3

-- the algorithm identity (5.1.4.2)
abbrev pub eia_identity : Integrity → ℕ
eia_identity Eia0 = 0
eia_identity Eia1 = 1
eia_identity Eia2 = 2
eia_identity Eia3 = 3

-- a text ciphered, or deciphered: EEA0 leaves it as it is (B.1)
unfoldable pub ciphered_by : Ciphering → List ℕ → ℕ → ℕ → Dir → List ℕ → List ℕ
ciphered_by Eea0 key count bearer dir text = text
ciphered_by Eea1 key count bearer dir text = eea1_of (drop 16 key) count bearer dir text
ciphered_by Eea2 key count bearer dir text = eea2_of (drop 16 key) count bearer dir text
ciphered_by Eea3 key count bearer dir text = eea3_of (drop 16 key) count bearer dir text

-- the MAC of a text, of four octets: those of EIA0 are zero (B.0, B.2)
unfoldable pub mac_by : Integrity → List ℕ → ℕ → ℕ → Dir → List ℕ → List ℕ
mac_by Eia0 key count bearer dir text = replicate 4 0
mac_by Eia1 key count bearer dir text = eia1_of (drop 16 key) count bearer dir text
mac_by Eia2 key count bearer dir text = eia2_of (drop 16 key) count bearer dir text
mac_by Eia3 key count bearer dir text = eia3_of (drop 16 key) count bearer dir text
