use Rattle.std.proofs.Common.{◌≡◌, None, Some, sym, ap, ◌∙◌, rules}
use Rattle.std.specs.Prelude.{not}
use Rattle.key_model.specs.Value.{value_of}
use Rattle.trace_keys.proofs.OneNet.{clash}
use Rattle.trace_order.specs.{Base.last_kenb, Base.made_at, Kinds.IsPlaced, Known.term_of}
use Rattle.trace_order.proofs.Belonging.{base_of_kenb}
use Rattle.trace_order.proofs.own.is_out_of_chain.Goals as goal

pub returns : goal.returns
returns c = λ t.
    let kasmes = c.args.kasmes.now in
    let first = c.in-Some.first in
    let next = c.in-Some-made_at.next in
    let kenb = c.in-Some-known_of.kenb in
    let placed = c.in-Some-placed_among.placed in
    let is_first : last_kenb None c.args.capture.now ≡ Some first = search rules in
    let is_next : made_at c.args.sight.now.at c.args.sight.now.pair ≡ Some next = search rules in
    let begun : value_of (term_of kasmes kenb) ≡ first.key = search rules in
    let is : IsPlaced next placed = search rules in
    record {
      first = first;
      next = next;
      kenb = term_of kasmes kenb;
      key = is.term;
      is_first = is_first;
      is_next = is_next;
      begun = begun;
      made = is.value;
      apart = λ e. clash (sym (ap not (c.is_of-own.ensures ∙ base_of_kenb kasmes placed.base kenb is.term is.base e)) ∙ t);
    }
