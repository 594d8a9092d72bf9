use Rattle.std.proofs.Common.{◌≡◌, suc, ◌+◌, ◌/◌, ◌^◌, ◌<◌, length, refl, ap, ◌∙◌, arith}
use Rattle.std.specs.Prelude.{bit_xor}
use Rattle.std.proofs.lemmas.Nat.{xor_lt}
use Rattle.eia1.specs.{Eia1.evaluated, Rows.sum_of}
use Rattle.eia1.proofs.RowLemmas.{sum_of-rows_of}
use Rattle.eia1.proofs.evaluation.evaluated.Goals as goal

pub loop-i-init : goal.loop-i-init
unfolding evaluated
loop-i-init c = refl

pub loop-i-preserved : goal.loop-i-preserved
unfolding evaluated
loop-i-preserved c =
    let p = c.args.p in
    let text = c.args.text.now in
    let i = c.loop-i.i in
    let v = bit_xor c.loop-i.value c.block_in.result in
    let next : suc i ≡ i + 1 = omega arith in
    let small : v < 2 ^ 64 = xor_lt 64 c.loop-i.value c.block_in.result (omega arith) (omega arith) in
    c.sum_of-value.ensures
    ∙ ap (λ r. sum_of r v 16) c.rows_of-rows.ensures
    ∙ sum_of-rows_of p v small (omega arith)
    ∙ rw (c.loop-i.invariant, c.block_in.ensures) (ap (evaluated text p) next)

pub returns : goal.returns
returns c =
    let end : c.loop-i.i ≡ (length c.args.text.now + 7) / 8 = omega arith in
    c.loop-i.invariant ∙ ap (evaluated c.args.text.now c.args.p) end
