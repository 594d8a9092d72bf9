use Rattle.ctr_eea2.proofs.CombinedLemmas.{eea2_of-eea2_of}
use Rattle.ctr_eea2.proofs.twice_is_the_text.Goals as goal

pub returns : goal.returns
returns c = eea2_of-eea2_of
