use Rattle.std.proofs.Common.{◌≡◌, None, Some, sym, ap, ◌∙◌, rules}
use Rattle.std.specs.Prelude.{not}
use Rattle.key_model.specs.Value.{value_of}
use Rattle.trace_keys.proofs.OneNet.{clash}
use Rattle.trace_order.specs.{Order.last_nh, Order.nh_of, Known.term_of}
use Rattle.trace_order.proofs.Knowing.{follows_further}
use Rattle.trace_order.proofs.never.is_out_of_order.Goals as goal

pub returns : goal.returns
returns c = λ t.
    let kasmes = c.args.kasmes.now in
    let last = c.in-Some.last in
    let next = c.in-Some-nh_of.next in
    let before = c.in-Some-known_of.before in
    let after = c.in-Some-known_of-2.after in
    let is_last : last_nh None c.args.capture.now ≡ Some last = search rules in
    let is_next : nh_of c.args.sight.now.at c.args.sight.now.pair ≡ Some next = search rules in
    let first : value_of (term_of kasmes before) ≡ last.key = search rules in
    let second : value_of (term_of kasmes after) ≡ next.key = search rules in
    record {
      last = last;
      next = next;
      before = before;
      after = after;
      is_last = is_last;
      is_next = is_next;
      first = first;
      second = second;
      apart = λ f. clash (sym (ap not (c.is_further-further.ensures ∙ follows_further kasmes before after f)) ∙ t);
    }
