use Rattle.nas_guard.proofs.SealFacts.{ciphered-ciphered}
use Rattle.nas_guard.proofs.laws.ciphered_twice_is_the_text.Goals as goal

pub returns : goal.returns
returns c = ciphered-ciphered
