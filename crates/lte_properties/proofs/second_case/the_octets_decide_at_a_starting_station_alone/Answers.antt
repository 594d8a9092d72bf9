use Rattle.lte_machine.specs.Ciphers.{annex_b}
use Rattle.lte_machine.proofs.AnnexB.{annex_b_ciphers}
use Rattle.lte_properties.proofs.EveryRun.{second}
use Rattle.lte_properties.proofs.second_case.the_octets_decide_at_a_starting_station_alone.Goals as goal

pub returns : goal.returns
returns c = λ setup events w set are is. second annex_b annex_b_ciphers setup events w is set are
