use Rattle.lte_machine.specs.Ciphers.{annex_b}
use Rattle.lte_machine.proofs.AnnexB.{annex_b_ciphers}
use Rattle.lte_properties.proofs.EveryRun.{uses_differ, values_differ}
use Rattle.lte_properties.proofs.uses_differ.no_use_comes_twice_in_every_run.Goals as goal

pub returns-clause-terms : goal.returns-clause-terms
returns-clause-terms c = uses_differ annex_b annex_b_ciphers

pub returns-clause-octets : goal.returns-clause-octets
returns-clause-octets c = values_differ annex_b annex_b_ciphers
