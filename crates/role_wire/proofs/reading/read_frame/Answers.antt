use Rattle.role_wire.proofs.FrameLaws.{exact}
use Rattle.role_wire.proofs.reading.read_frame.Goals as goal

pub returns-clause-exact : goal.returns-clause-exact
returns-clause-exact g c = exact _ _ _ _ _ c.next_frame.ensures.read
