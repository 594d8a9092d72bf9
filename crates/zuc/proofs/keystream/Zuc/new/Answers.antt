use Rattle.std.proofs.Common.{refl}
use Rattle.zuc.specs.State.{initialised, mixed_for}
use Rattle.zuc.proofs.keystream.Zuc.new.Goals as goal

pub returns : goal.returns
unfolding initialised mixed_for
returns c = rw (c.mix_sixteen-2.ensures, c.mix_sixteen.ensures, c.load-generator.ensures) refl
