use Rattle.std.proofs.Common.{◌≡◌, true, rules}
use Rattle.trace_order.specs.Known.{all_seen}
use Rattle.trace_order.proofs.Belonging.{never_made}
use Rattle.trace_order.proofs.own.is_foreign.Goals as goal

pub returns-then-seen : goal.returns-then-seen
returns-then-seen c =
    let seen : all_seen c.args.covered.now c.args.family.now ≡ true = search rules in
    record {
      never = λ t.
          never_made c.args.kasmes.now c.args.covered.now c.args.family.now c.args.capture.now c.args.sight.now seen (c.is_out_of_chain-out.ensures t);
    }
