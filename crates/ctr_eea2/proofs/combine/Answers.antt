use Rattle.std.proofs.Common.{refl}
use Rattle.std.specs.Prelude.{slice_index}
use Rattle.keystream.specs.Combined.{combined}
use Rattle.keystream.proofs.CombinedLemmas.{combined_more, combined_all}
use Rattle.ctr_eea2.proofs.combine.Goals as goal

pub loop-i-init : goal.loop-i-init
unfolding combined
loop-i-init c = refl

pub loop-i-preserved : goal.loop-i-preserved
loop-i-preserved c =
    rw c.loop-i.invariant (combined_more (slice_index c.args.stream.now) c.args.piece.now c.loop-i.i c.loop-i-test.true)

pub returns : goal.returns
returns c =
    rw c.loop-i.invariant (combined_all (slice_index c.args.stream.now) c.args.piece.now c.loop-i.i c.loop-i-test.false)
