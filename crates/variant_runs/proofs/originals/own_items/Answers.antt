use Rattle.std.proofs.Common.{refl, sym, ◌∙◌, ◌+◌, [], ◌∷◌, ◌++◌}
use Rattle.variant_runs.specs.Original.{item_at, own_items}
use Rattle.variant_runs.proofs.OwnItems.{one_more}
use Rattle.variant_runs.proofs.originals.own_items.Goals as goal

pub loop-step-init : goal.loop-step-init
unfolding own_items
loop-step-init c = c.new-list.ensures.items

pub loop-step-preserved : goal.loop-step-preserved
loop-step-preserved c =
    c.push_reserved.ensures.items
    ∙ (λ j. c.reserve.ensures.items j ++ c.item_at.ensures j ∷ [])
    ∙ (λ j. c.loop-step.invariant j ++ item_at c.loop-step.step ∷ [])
    ∙ sym (one_more (c.loop-step.step + 1) c.loop-step.step refl)
