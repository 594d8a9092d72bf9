use Rattle.lte_recovery.proofs.{Laws.recovers_in, InOctets.recovers_in_octets}
use Rattle.lte_recovery.proofs.reconnection.a_reconnection_restores_agreement.Goals as goal

pub returns-clause-terms : goal.returns-clause-terms
returns-clause-terms c = λ setup events set are w u cell runs heals can. recovers_in setup events set are w runs u cell heals can

pub returns-clause-octets : goal.returns-clause-octets
returns-clause-octets c = λ setup events set are. recovers_in_octets setup events set are
