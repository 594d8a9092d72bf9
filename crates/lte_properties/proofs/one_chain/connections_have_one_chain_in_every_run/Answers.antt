use Rattle.lte_machine.specs.Ciphers.{annex_b}
use Rattle.lte_machine.proofs.AnnexB.{annex_b_ciphers}
use Rattle.lte_properties.proofs.EveryRun.{chains}
use Rattle.lte_properties.proofs.one_chain.connections_have_one_chain_in_every_run.Goals as goal

pub returns : goal.returns
returns c = λ setup events w set are is. chains annex_b annex_b_ciphers setup events w is set are
