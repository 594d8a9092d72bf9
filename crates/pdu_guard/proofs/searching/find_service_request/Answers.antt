use Rattle.std.proofs.Common.{◌+◌, ◌*◌, Some, sym, ap, ◌∙◌, arith, add-one, suc, ◌≤◌}
use Rattle.pdu_guard.specs.Search.{service_right}
use Rattle.pdu_guard.proofs.SearchFacts.{found_below, none_first, none_more}
use Rattle.pdu_guard.proofs.searching.find_service_request.Goals as goal

pub loop-overflow-init : goal.loop-overflow-init
loop-overflow-init c = none_first (service_right c.args.eia c.args.int.now c.args.request.now)

pub returns-then-is_service_right-clause-value : goal.returns-then-is_service_right-clause-value
returns-then-is_service_right-clause-value c =
    let below : suc c.loop-overflow.overflow ≤ 524288 = omega arith in
    let found = found_below (service_right c.args.eia c.args.int.now c.args.request.now) c.loop-overflow.overflow 524288
    c.loop-overflow.invariant (sym c.is_service_right.ensures ∙ c.if-is_service_right.true) below in
    rw found (ap (λ n. Some (32 * c.loop-overflow.overflow + n)) c.from.ensures)

pub loop-overflow-preserved : goal.loop-overflow-preserved
loop-overflow-preserved c =
    rw (add-one c.loop-overflow.overflow)
    (none_more (service_right c.args.eia c.args.int.now c.args.request.now) c.loop-overflow.overflow
    c.loop-overflow.invariant (sym c.is_service_right.ensures ∙ c.if-is_service_right.false))
