use Rattle.std.proofs.Common.{◌≡◌, refl, rules}
use Rattle.key_model.specs.{Term.Root, Chain.nh, Value.value_of}
use Rattle.trace_order.proofs.Making.{shape_nh, base_nh}
use Rattle.trace_order.proofs.clues.under.Goals as goal

pub returns : goal.returns
returns c =
    let known = c.args.known.now in
    let root = Root known.kasme c.args.root.now in
    let value : value_of (nh root known.count known.number) ≡ c.nh_at-key.result =
    c.nh_at-key.ensures root known.count refl (search rules) in
    record {
      term = nh root known.count known.number;
      value = value;
      shape = shape_nh root known.count known.number;
      base = (c.args.root.now, base_nh root known.count known.number);
    }
