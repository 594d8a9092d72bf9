use Rattle.eea1.proofs.Eea1Lemmas.{eea1_of-eea1_of}
use Rattle.eea1.proofs.twice_is_the_text.Goals as goal

pub returns : goal.returns
returns c = eea1_of-eea1_of
