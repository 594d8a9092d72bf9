use Rattle.std.proofs.Common.{ap, ◌∙◌}
use Rattle.net_bag.specs.Class.{digest}
use Rattle.net_bag.proofs.Searching.{index_step}
use Rattle.net_bag.proofs.bag.index_all.Goals as goal

pub loop-number-preserved : goal.loop-number-preserved
loop-number-preserved c =
    index_step c.loop-number.index c.push.new.self c.args.records.now.records c.loop-number.number c.to.result
    c.octets.result.now c.digest.result c.loop-number.invariant.0 c.loop-number.invariant.1 c.to.ensures
    c.octets.ensures.value (c.digest.ensures ∙ ap (λ class. digest class c.octets.result.now) c.class-class.ensures)
    c.in-Ok.ensures.ok
