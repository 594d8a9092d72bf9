use Rattle.std.proofs.Common.{refl}
use Rattle.alg_suite.specs.Suite.{ciphered_by, mac_by}
use Rattle.nas_guard.specs.Cipher.{ciphered, mac_of}
use Rattle.alg_suite.proofs.laws.are_those_of_nas_guard.Goals as goal

pub returns-clause-eea0 : goal.returns-clause-eea0
unfolding ciphered_by ciphered
returns-clause-eea0 c = λ key count bearer dir text. refl

pub returns-clause-eea2 : goal.returns-clause-eea2
unfolding ciphered_by ciphered
returns-clause-eea2 c = λ key count bearer dir text. refl

pub returns-clause-eia2 : goal.returns-clause-eia2
unfolding mac_by mac_of
returns-clause-eia2 c = λ key count bearer dir text. refl
