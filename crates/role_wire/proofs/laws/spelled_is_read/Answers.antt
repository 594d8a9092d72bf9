use Rattle.role_wire.proofs.Sizes.{spelled_again}
use Rattle.role_wire.proofs.laws.spelled_is_read.Goals as goal

pub returns : goal.returns
returns c = spelled_again
