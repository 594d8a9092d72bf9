-- The algorithms of TS 33.401 Annex B under a key of 128 bits.
use Rattle.std.specs.Prelude.{ℕ, List, replicate}
use Rattle.alg_suite.specs.{declared.ciphering.Ciphering.Ciphering, declared.integrity.Integrity.Integrity}
use Rattle.alg_suite.specs.declared.ciphering.Ciphering.TheVariants.{Eea0, Eea1, Eea2, Eea3}
use Rattle.alg_suite.specs.declared.integrity.Integrity.TheVariants.{Eia0, Eia1, Eia2, Eia3}
use Rattle.cmac_eia2.specs.Eia2.{eia2_of}
use Rattle.ctr_eea2.specs.Eea2.{eea2_of}
use Rattle.eea1.specs.Eea1.{eea1_of}
use Rattle.eea3.specs.Eea3.{eea3_of}
use Rattle.eia1.specs.Eia1.{eia1_of}
use Rattle.eia3.specs.Eia3.{eia3_of}
use Rattle.calc_text.specs.declared.requests.Inputs.{Inputs}

-- a text enciphered, or deciphered (B.1)
abbrev pub enciphered : Ciphering → Inputs → List ℕ → List ℕ
enciphered Eea0 i text = text
enciphered Eea1 i text = eea1_of i.key i.count i.bearer i.dir text
enciphered Eea2 i text = eea2_of i.key i.count i.bearer i.dir text
enciphered Eea3 i text = eea3_of i.key i.count i.bearer i.dir text

-- the MAC of a text (B.2)
abbrev pub mac_under : Integrity → Inputs → List ℕ → List ℕ
mac_under Eia0 i text = replicate 4 0
mac_under Eia1 i text = eia1_of i.key i.count i.bearer i.dir text
mac_under Eia2 i text = eia2_of i.key i.count i.bearer i.dir text
mac_under Eia3 i text = eia3_of i.key i.count i.bearer i.dir text
