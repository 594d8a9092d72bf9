use Rattle.std.proofs.Common.{◌≡◌, ◌+◌, ◌*◌, ◌/◌, length, ap, ◌∙◌, arith}
use Rattle.eia3.proofs.SumLemmas.{three_sums, window_at_octet}
use Rattle.eia3.proofs.summing.rest_sum.Goals as goal

pub returns : goal.returns
returns c =
    λ z h k.
    let octets = length c.args.rest.now in
    let last : c.div_ceil.result + 1 ≡ (8 * octets + 31) / 32 + 1 = omega arith in
    three_sums _ _ _ _ _ _ (c.piece_sum.ensures z h)
    (window_at_octet z octets c.word_at-high.result c.word_at-low.result (c.word_at-high.ensures z h k) (c.word_at-low.ensures z h k))
    (c.word_at-last.ensures z h k ∙ ap z last)
