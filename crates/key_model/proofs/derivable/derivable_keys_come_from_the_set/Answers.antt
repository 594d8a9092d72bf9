use Rattle.key_model.proofs.DerivableFacts.{derivable_is}
use Rattle.key_model.proofs.derivable.derivable_keys_come_from_the_set.Goals as goal

pub returns : goal.returns
returns g c = λ set t none shape. derivable_is (g.S.KeySet.contains set) none t shape
