-- The keystream of the algorithm.
use Rattle.std.proofs.Common.{◌≡◌, ℕ, List}
use Rattle.rec_base.specs.declared.uses.Dir.{Dir}
use Rattle.keystream.specs.Combined.{octet_in}
use Rattle.keystream.proofs.CombinedLemmas.{combined-combined}
use Rattle.eea1.specs.Eea1.{eea1_of, eea1_word}

-- to cipher twice gives the text back
pub eea1_of-eea1_of : (key : List ℕ) (count bearer : ℕ) (dir : Dir) (text : List ℕ)
    → eea1_of key count bearer dir (eea1_of key count bearer dir text) ≡ text
unfolding eea1_of
eea1_of-eea1_of key count bearer dir text = combined-combined (octet_in (eea1_word key count bearer dir)) 0 text
