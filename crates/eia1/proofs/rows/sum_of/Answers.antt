use Rattle.std.proofs.Common.{◌≡◌, suc, ◌+◌, refl, ap, ◌∙◌, arith}
use Rattle.eia1.specs.Rows.{sum_of}
use Rattle.eia1.proofs.rows.sum_of.Goals as goal

pub loop-j-init : goal.loop-j-init
unfolding sum_of
loop-j-init c = refl

pub loop-j-preserved : goal.loop-j-preserved
unfolding sum_of
loop-j-preserved c =
    let next : suc c.loop-j.j ≡ c.loop-j.j + 1 = omega arith in
    rw c.loop-j.invariant (ap (sum_of c.args.rows.now c.args.v) next)

pub returns : goal.returns
returns c =
    let end : c.loop-j.j ≡ 16 = omega arith in
    c.loop-j.invariant ∙ ap (sum_of c.args.rows.now c.args.v) end
