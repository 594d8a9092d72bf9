use Rattle.lte_machine.specs.Ciphers.{annex_b}
use Rattle.lte_machine.proofs.AnnexB.{annex_b_ciphers}
use Rattle.lte_properties.proofs.EveryRun.{packets}
use Rattle.lte_properties.proofs.packets_open.packets_open_to_what_was_sent_in_every_run.Goals as goal

pub returns : goal.returns
returns c = λ setup events w set are is. packets annex_b annex_b_ciphers setup events w is set are
