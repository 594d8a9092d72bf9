use Rattle.std.proofs.Common.{refl, sym, ◌∙◌, ◌+◌}
use Rattle.item_outcomes.specs.declared.troubles.Trouble.TheVariants as trouble
use Rattle.variant_runs.specs.Troubles.{with_if}
use Rattle.variant_runs.proofs.Lost.{none, one_more}
use Rattle.variant_runs.proofs.troubles.add_lost.Goals as goal

pub loop-number-init : goal.loop-number-init
loop-number-init c = none c.args.told.now c.args.acts.now.items c.args.steps.now c.args.list.now.items

pub loop-number-preserved : goal.loop-number-preserved
loop-number-preserved c =
    let number = c.loop-number.number in
    c.in_ok-add_if.ensures.added
    ∙ (λ j. with_if (c.is_lost-is.ensures j) (trouble.PacketLost number) (c.loop-number.invariant j))
    ∙ sym (one_more c.args.told.now c.args.acts.now.items c.args.steps.now c.args.list.now.items (number + 1) number refl)
