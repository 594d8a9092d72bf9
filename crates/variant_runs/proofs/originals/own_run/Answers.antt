use Rattle.std.proofs.Common.{sym, ap, subst, ◌∙◌, arith, ◌≤◌, length, All}
use Rattle.std.proofs.lemmas.Result.{IfOk-weaker}
use Rattle.items.specs.Items.{IsItemOf}
use Rattle.variant_runs.proofs.OwnItems.{are_items, as_many}
use Rattle.variant_runs.proofs.originals.own_run.Goals as goal

pub run_items-requires-clause-are_items : goal.run_items-requires-clause-are_items
run_items-requires-clause-are_items c =
    subst (All (IsItemOf (length c.args.acts.now.items))) (sym (c.as_slice.ensures.value ∙ c.in-Ok.ensures.items))
    (are_items (length c.args.acts.now.items) c.args.steps c.requires.there)

pub run_items-requires-clause-few : goal.run_items-requires-clause-few
run_items-requires-clause-few c =
    let same = ap length (c.as_slice.ensures.value ∙ c.in-Ok.ensures.items) in
    let many = as_many c.args.steps in omega (arith, same, many, c.requires.few)

pub returns-in-Ok-clause-short : goal.returns-in-Ok-clause-short
returns-in-Ok-clause-short c =
    let same = ap length (c.as_slice.ensures.value ∙ c.in-Ok.ensures.items) in
    let many = as_many c.args.steps in
    IfOk-weaker c.run_items.result _ (λ course. length course.coming.events ≤ 18000)
    (λ course less. omega (arith, less, same, many, c.requires.few)) c.run_items.ensures.few
