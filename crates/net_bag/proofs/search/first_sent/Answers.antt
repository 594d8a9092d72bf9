use Rattle.std.proofs.Common.{Some, sym, ap, ◌∙◌, arith}
use Rattle.net_bag.proofs.Searching.{is_first, is_none}
use Rattle.net_bag.proofs.search.first_sent.Goals as goal

pub returns-then-is_sent : goal.returns-then-is_sent
returns-then-is_sent c =
    sym (is_first c.args.records.now.records c.args.class.now c.args.octets.now c.loop-number.number
    (c.is_sent.ensures ∙ ap Some c.if-is_sent.true) c.loop-number.invariant)

pub returns : goal.returns
returns c =
    let end = c.loop-number-test.false in
    sym (is_none c.args.records.now.records c.args.class.now c.args.octets.now
    (λ j r lt at. c.loop-number.invariant j r (omega (arith, lt, end, c.len-number-end.ensures.len)) at))
