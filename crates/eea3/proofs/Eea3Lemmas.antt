-- The keystream of the algorithm.
use Rattle.std.proofs.Common.{◌≡◌, ℕ, List}
use Rattle.rec_base.specs.declared.uses.Dir.{Dir}
use Rattle.keystream.specs.Combined.{octet_in}
use Rattle.keystream.proofs.CombinedLemmas.{combined-combined}
use Rattle.eea3.specs.Eea3.{eea3_of, eea3_word}

-- to cipher twice gives the text back
pub eea3_of-eea3_of : (key : List ℕ) (count bearer : ℕ) (dir : Dir) (text : List ℕ)
    → eea3_of key count bearer dir (eea3_of key count bearer dir text) ≡ text
unfolding eea3_of
eea3_of-eea3_of key count bearer dir text = combined-combined (octet_in (eea3_word key count bearer dir)) 0 text
