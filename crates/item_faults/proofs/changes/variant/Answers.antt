use Rattle.item_faults.specs.{Changes.variant, Laws.CanRun}
use Rattle.item_faults.proofs.Keeps.{some_of, variant_can_run}
use Rattle.item_faults.proofs.changes.variant.Goals as goal

pub returns-clause-can_run : goal.returns-clause-can_run
returns-clause-can_run c = λ acts all few.
    some_of (λ list. list.items) (CanRun acts) c.together.result (variant c.args.faults.now c.args.entries.now)
    c.together.ensures.items (variant_can_run acts c.args.faults.now c.args.entries.now c.requires all few)
