use Rattle.lte_machine.specs.Ciphers.{annex_b}
use Rattle.lte_machine.proofs.AnnexB.{annex_b_ciphers}
use Rattle.lte_properties.proofs.EveryRun.{shared}
use Rattle.lte_properties.proofs.keys_shared.only_source_and_target_share_the_key_in_every_run.Goals as goal

pub returns : goal.returns
returns c = λ setup events w set are is. shared annex_b annex_b_ciphers setup events w is set are
