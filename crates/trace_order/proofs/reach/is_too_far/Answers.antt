use Rattle.std.proofs.Common.{◌≡◌, None, Some, rules, arith, ltb-true}
use Rattle.trace_order.specs.{Order.last_nh, Order.nh_of, Reach.IsFrom, Reach.IsNumber, Reach.steps_from}
use Rattle.trace_order.proofs.reach.is_too_far.Goals as goal

pub returns : goal.returns
returns c = λ t.
    let from = c.in-Some.from in
    let steps = c.in-Some-steps_since.steps in
    let next = c.in-Some-nh_of.next in
    let to = c.in-Some-number_of.to in
    let is_from : IsFrom (last_nh None c.args.capture.now) from = search rules in
    let is_next : nh_of c.args.sight.now.at c.args.sight.now.pair ≡ Some next = search rules in
    let is_to : IsNumber next to = search rules in
    let since : steps ≡ steps_from 0 c.args.capture.now = search rules in
    record {
      from = from;
      to = to;
      next = next;
      is_from = is_from;
      is_next = is_next;
      is_to = is_to;
      far = omega (arith, since, ltb-true _ _ t);
    }
