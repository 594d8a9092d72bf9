use Rattle.std.proofs.Common.{◌≤◌, All, length, subst, arith}
use Rattle.items.specs.Items.{IsItemOf}
use Rattle.item_probe.specs.Parts.{first_part, most_first}
use Rattle.item_probe.proofs.{Chained.first_is, Chained.length-first, Happens.ok_of}
use Rattle.item_probe.proofs.parts.first_part.Goals as goal

pub returns-clause-are_items : goal.returns-clause-are_items
returns-clause-are_items c = λ acts room is.
    ok_of (λ list. list.items) (All (IsItemOf acts)) c.list_first.result (first_part c.args.setup.now c.args.steps)
    c.list_first.ensures.items (first_is acts c.args.setup.now c.args.steps room is)

pub returns-clause-few : goal.returns-clause-few
returns-clause-few c =
    let long = length-first c.args.setup.now c.args.steps in
    let few = subst (λ stations. length stations ≤ 8) c.as_slice.ensures.value c.as_slice.ensures.within in
    ok_of (λ list. list.items) (λ list. length list ≤ most_first) c.list_first.result (first_part c.args.setup.now c.args.steps)
    c.list_first.ensures.items (omega (arith, long, few))
