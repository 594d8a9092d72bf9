-- To cipher twice gives the text back, by cases.
use Rattle.std.proofs.Common.{◌≡◌, ℕ, List, drop, refl}
use Rattle.alg_suite.specs.{declared.ciphering.Ciphering.Ciphering, Suite.ciphered_by}
use Rattle.alg_suite.specs.declared.ciphering.Ciphering.TheVariants.{Eea0, Eea1, Eea2, Eea3}
use Rattle.ctr_eea2.proofs.CombinedLemmas.{eea2_of-eea2_of}
use Rattle.eea1.proofs.Eea1Lemmas.{eea1_of-eea1_of}
use Rattle.eea3.proofs.Eea3Lemmas.{eea3_of-eea3_of}
use Rattle.rec_base.specs.declared.uses.Dir.{Dir}

pub ciphered_by-ciphered_by : (eea : Ciphering) (key : List ℕ) (count bearer : ℕ) (dir : Dir) (text : List ℕ)
    → ciphered_by eea key count bearer dir (ciphered_by eea key count bearer dir text) ≡ text
unfolding ciphered_by
ciphered_by-ciphered_by Eea0 key count bearer dir text = refl
ciphered_by-ciphered_by Eea1 key count bearer dir text = eea1_of-eea1_of (drop 16 key) count bearer dir text
ciphered_by-ciphered_by Eea2 key count bearer dir text = eea2_of-eea2_of (drop 16 key) count bearer dir text
ciphered_by-ciphered_by Eea3 key count bearer dir text = eea3_of-eea3_of (drop 16 key) count bearer dir text
