use Rattle.lte_recovery.proofs.{Laws.recovers_anew_in, InOctets.recovers_anew_in_octets}
use Rattle.lte_recovery.proofs.anew.a_new_authentication_restores_agreement.Goals as goal

pub returns-clause-terms : goal.returns-clause-terms
returns-clause-terms c = λ setup events set are w u cell ksi octets runs heals can. recovers_anew_in setup events set are w runs u cell ksi octets heals can

pub returns-clause-octets : goal.returns-clause-octets
returns-clause-octets c = λ setup events set are. recovers_anew_in_octets setup events set are
