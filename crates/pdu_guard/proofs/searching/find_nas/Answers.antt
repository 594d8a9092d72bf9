use Rattle.std.proofs.Common.{◌+◌, ◌*◌, Some, sym, ap, ◌∙◌, arith, add-one, suc, ◌≤◌}
use Rattle.pdu_guard.specs.Search.{nas_right}
use Rattle.pdu_guard.proofs.SearchFacts.{found_below, none_first, none_more}
use Rattle.pdu_guard.proofs.searching.find_nas.Goals as goal

pub loop-overflow-init : goal.loop-overflow-init
loop-overflow-init c = none_first (nas_right c.args.keys.now c.args.dir c.args.pdu.now)

pub returns-then-is_nas_right-clause-value : goal.returns-then-is_nas_right-clause-value
returns-then-is_nas_right-clause-value c =
    let below : suc c.loop-overflow.overflow ≤ 65536 = omega arith in
    let found = found_below (nas_right c.args.keys.now c.args.dir c.args.pdu.now) c.loop-overflow.overflow 65536
    c.loop-overflow.invariant (sym c.is_nas_right.ensures ∙ c.if-is_nas_right.true) below in
    rw found (ap (λ n. Some (256 * c.loop-overflow.overflow + n)) c.from.ensures)

pub loop-overflow-preserved : goal.loop-overflow-preserved
loop-overflow-preserved c =
    rw (add-one c.loop-overflow.overflow)
    (none_more (nas_right c.args.keys.now c.args.dir c.args.pdu.now) c.loop-overflow.overflow
    c.loop-overflow.invariant (sym c.is_nas_right.ensures ∙ c.if-is_nas_right.false))
