use Rattle.eea3.proofs.Eea3Lemmas.{eea3_of-eea3_of}
use Rattle.eea3.proofs.twice_is_the_text.Goals as goal

pub returns : goal.returns
returns c = eea3_of-eea3_of
