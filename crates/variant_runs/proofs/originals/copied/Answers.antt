use Rattle.std.proofs.Common.{◌∙◌, [], ◌∷◌, ◌++◌}
use Rattle.item_steps.proofs.OneStepMore.{taken}
use Rattle.variant_runs.proofs.originals.copied.Goals as goal

pub loop-number-preserved : goal.loop-number-preserved
loop-number-preserved c =
    c.in_ok-push.ensures.items
    ∙ (λ j. c.loop-number.invariant j ++ c.at.result ∷ [])
    ∙ taken c.args.events.now.items c.loop-number.number c.at.result c.at.ensures
