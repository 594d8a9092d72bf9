use Rattle.std.proofs.Common.{rules}
use Rattle.rec_base.specs.BigEndian.{field_at}
use Rattle.rec_base.proofs.fields.key_at.Goals as goal

pub returns : goal.returns
unfolding field_at
returns c = search rules
