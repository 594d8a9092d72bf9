use Rattle.lte_machine.specs.Ciphers.{annex_b}
use Rattle.lte_machine.proofs.{AnnexB.annex_b_ciphers, WholeRun.run_is_value}
use Rattle.lte_machine.proofs.runs.run_in_octets_is_the_value.Goals as goal

pub returns : goal.returns
returns c setup events is are = run_is_value annex_b annex_b_ciphers setup is events are
