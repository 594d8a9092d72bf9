use Rattle.std.proofs.Common.{◌≡◌, suc, ◌+◌, refl, ap, arith}
use Rattle.eia3.specs.Words.{word_sum}
use Rattle.eia3.proofs.summing.word_sum.Goals as goal

pub loop-i-init : goal.loop-i-init
unfolding word_sum
loop-i-init c = refl

pub loop-i-preserved : goal.loop-i-preserved
unfolding word_sum
loop-i-preserved c =
    let next : suc c.loop-i.i ≡ c.loop-i.i + 1 = omega arith in
    rw (c.times_bit-sum.ensures, c.loop-i.invariant) (ap (word_sum c.args.m c.args.high c.args.low) next)
