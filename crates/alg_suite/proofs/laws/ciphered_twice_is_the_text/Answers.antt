use Rattle.alg_suite.proofs.SuiteLemmas.{ciphered_by-ciphered_by}
use Rattle.alg_suite.proofs.laws.ciphered_twice_is_the_text.Goals as goal

pub returns : goal.returns
returns c = ciphered_by-ciphered_by
