use Rattle.role_wire.proofs.Sizes.{frame_size}
use Rattle.role_wire.proofs.laws.spelling_is_short.Goals as goal

pub returns : goal.returns
returns c = frame_size
