use Rattle.std.proofs.Common.{◌*◌, refl, ◌∙◌, arith, rules}
use Rattle.eia3.specs.Eia3.{sums}
use Rattle.eia3.proofs.SumLemmas.{AreOctets, sums_past, sums_word}
use Rattle.eia3.proofs.summing.piece_sum.Goals as goal

pub loop-i-init : goal.loop-i-init
unfolding sums
loop-i-init c = λ z h. refl

pub loop-i-preserved : goal.loop-i-preserved
loop-i-preserved c =
    λ z h.
    let i = c.loop-i.i in
    let fit : AreOctets c.args.piece.now = λ k. let octet = c.type_inv.piece k in search rules in
    rw (
      c.word_sum-sum.ensures,
      c.number_in.ensures,
      h.first i (omega arith),
      c.word_behind.ensures z h,
      c.loop-i.invariant z h,
    )
    (sums_word z c.args.piece.now i fit)

pub returns : goal.returns
returns c = λ z h. c.loop-i.invariant z h ∙ sums_past z c.args.piece.now (32 * c.loop-i.i) (omega arith)
