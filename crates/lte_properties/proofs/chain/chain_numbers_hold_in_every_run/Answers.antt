use Rattle.lte_properties.proofs.ChainNumbers.World.{chain_numbers_hold, chain_numbers_hold_in_octets}
use Rattle.lte_properties.proofs.chain.chain_numbers_hold_in_every_run.Goals as goal

pub returns-clause-by_uses : goal.returns-clause-by_uses
returns-clause-by_uses c = chain_numbers_hold

pub returns-clause-by_octets : goal.returns-clause-by_octets
returns-clause-by_octets c = chain_numbers_hold_in_octets
