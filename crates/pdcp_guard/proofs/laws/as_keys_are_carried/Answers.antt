use Rattle.pdcp_guard.proofs.KeyFacts.{as_derivations-carried, as_keys_of-carried}
use Rattle.pdcp_guard.proofs.laws.as_keys_are_carried.Goals as goal

pub returns-clause-keys : goal.returns-clause-keys
returns-clause-keys g c = as_keys_of-carried

pub returns-clause-derivations : goal.returns-clause-derivations
returns-clause-derivations g c = as_derivations-carried
