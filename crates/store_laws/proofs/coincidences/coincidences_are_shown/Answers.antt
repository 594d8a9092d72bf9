use Rattle.store_laws.proofs.ProofsAreCoincidences.{coincidence_back, shown_again}
use Rattle.store_laws.proofs.coincidences.coincidences_are_shown.Goals as goal

pub returns-clause-coincidence : goal.returns-clause-coincidence
returns-clause-coincidence call c = coincidence_back c

pub returns-clause-shown : goal.returns-clause-shown
returns-clause-shown call p = shown_again p
