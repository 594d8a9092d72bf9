use Rattle.std.proofs.Common.{◌≤◌, inl, length, subst, sym}
use Rattle.item_faults.specs.Entries.{most_steps}
use Rattle.lte_variants.proofs.Few.{messages-few}
use Rattle.lte_variants.proofs.report.messages_asked.Goals as goal

pub returns-in-None-clause-few : goal.returns-in-None-clause-few
returns-in-None-clause-few c =
    let few = messages-few c.args.request.now.packets c.args.steps.now c.requires.few in
    inl (c.requires.request.fewer c.in-None.is, subst (λ ms. length ms ≤ most_steps) (sym c.in_ok-all.ensures.messages) few)
