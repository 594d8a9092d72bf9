use Rattle.key_model.specs.Term.{Root}
use Rattle.key_model.proofs.DerivableFacts.{star_held}
use Rattle.key_model.proofs.derivable.star_is_derivable_from_its_nh.Goals as goal

pub returns : goal.returns
returns g c = λ set r n i pci earfcn octets none. star_held (g.S.KeySet.contains set) none (Root r octets) n i pci earfcn tt
