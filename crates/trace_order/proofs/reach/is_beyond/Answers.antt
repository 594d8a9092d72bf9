use Rattle.std.proofs.Common.{◌≡◌, true, rules}
use Rattle.trace_order.specs.Reach.{all_steps}
use Rattle.trace_order.proofs.Reaching.{never_beyond}
use Rattle.trace_order.proofs.reach.is_beyond.Goals as goal

pub returns-then-seen : goal.returns-then-seen
returns-then-seen c =
    let seen : all_steps c.args.covered.now c.args.family.now ≡ true = search rules in
    record {
      never = λ t.
          never_beyond c.args.kasmes.now c.args.covered.now c.args.family.now c.args.capture.now c.args.sight.now seen (c.is_too_far-far.ensures t);
    }
