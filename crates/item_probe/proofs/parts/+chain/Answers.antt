use Rattle.std.proofs.Common.{arith}
use Rattle.item_probe.proofs.Chained.{ends, goes_on, on_ok}
use Rattle.item_probe.proofs.parts.+chain.Goals as goal

pub returns-then-times-eq0-clause-items : goal.returns-then-times-eq0-clause-items
returns-then-times-eq0-clause-items t c =
    on_ok c.push.result c.push.ensures.items (λ is.
    ends c.args.list.now.items c.push.new.list.items c.args.name c.args.deed c.args.times (omega (arith, c.if-times-eq0.true)) is)

pub returns-clause-items : goal.returns-clause-items
returns-clause-items t c =
    on_ok c.chain.result c.chain.ensures.items (λ is.
    goes_on c.args.list.now.items c.push-2.new.list.items c.chain.new.list.items c.args.name c.args.deed c.args.times
    (omega (arith, c.if-times-eq0.false)) c.in_ok-push.ensures.items is)
