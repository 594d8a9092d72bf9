use Rattle.std.proofs.Common.{sym, subst, ◌≤◌, length, IfSome}
use Rattle.item_faults.specs.{Entries.most_steps, Laws.AreEntries, Laws.CanRun}
use Rattle.variant_runs.proofs.studies.Study.variant.Goals as goal

pub returns-in-Ok-clause-can_run : goal.returns-in-Ok-clause-can_run
returns-in-Ok-clause-can_run c =
    let acts = length c.self.inside.acts.items in
    let entries = subst (AreEntries acts) (sym c.as_slice.ensures.value) c.self.invariant.are_entries in
    let few = subst (λ list. length list ≤ most_steps) (sym c.as_slice.ensures.value) c.self.invariant.as_many in
    subst (λ o. IfSome c.in-Ok.list (λ list. CanRun (length o.acts) list.items)) c.self.view_is (c.in-Ok.ensures.can_run acts entries few)
