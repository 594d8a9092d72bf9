use Rattle.std.proofs.Common.{◌≡◌, suc, ◌+◌, refl, ap, ◌∙◌, arith}
use Rattle.eia1.specs.Polynomial.{multiply, terms, times_power, times_x}
use Rattle.eia1.proofs.polynomials.multiply.Goals as goal

pub loop-i-init : goal.loop-i-init
unfolding terms times_power
loop-i-init c = record { power = refl; sum = refl }

pub loop-i-preserved : goal.loop-i-preserved
unfolding terms times_power
loop-i-preserved c =
    let i = c.loop-i.i in
    let next : suc i ≡ i + 1 = omega arith in
    record {
      power = c.times_x-power.ensures ∙ ap times_x c.loop-i.invariant.power ∙ ap (times_power c.args.v) next;
      sum = rw (c.times_bit-sum.ensures, c.loop-i.invariant.power, c.loop-i.invariant.sum) (ap (terms c.args.v c.args.p) next);
    }

pub returns : goal.returns
unfolding multiply
returns c =
    let end : c.loop-i.i ≡ 64 = omega arith in
    c.loop-i.invariant.sum ∙ ap (terms c.args.v c.args.p) end
