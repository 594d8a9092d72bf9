use Rattle.key_model.proofs.TermFacts.{chain_number_nh, same_number}
use Rattle.key_model.proofs.chains.chain_numbers.Goals as goal

pub returns-clause-chain : goal.returns-clause-chain
returns-clause-chain c = chain_number_nh

pub returns-clause-apart : goal.returns-clause-apart
returns-clause-apart c = same_number
