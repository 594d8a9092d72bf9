use Rattle.std.proofs.Common.{sym, subst, length, All}
use Rattle.items.specs.Items.{IsItemOf}
use Rattle.variant_runs.proofs.running.run_with.Goals as goal

pub run_items-requires-clause-are_items : goal.run_items-requires-clause-are_items
run_items-requires-clause-are_items c =
    let acts = length c.args.acts.now.items in
    subst (All (IsItemOf acts)) (sym c.as_slice.ensures.value) (c.in-Ok.ensures.are_items acts c.requires.entries)
