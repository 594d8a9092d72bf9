use Rattle.key_model.proofs.DerivableFacts.{kenb_derivable, nh_derivable}
use Rattle.key_model.proofs.derivable.no_key_above_is_derivable.Goals as goal

pub returns-clause-kenb : goal.returns-clause-kenb
returns-clause-kenb g c = λ set r n octets none. kenb_derivable (g.S.KeySet.contains set) none r n octets

pub returns-clause-nh : goal.returns-clause-nh
returns-clause-nh g c = λ set r octets t none. nh_derivable (g.S.KeySet.contains set) none r octets t
