use Rattle.std.proofs.Common.{◌≤◌, All, length}
use Rattle.items.specs.Items.{IsItemOf}
use Rattle.item_probe.specs.Parts.{most_third, third_part}
use Rattle.item_probe.proofs.{Chained.length-third, Chained.third_is, Happens.ok_of}
use Rattle.item_probe.proofs.parts.third_part.Goals as goal

pub returns-clause-are_items : goal.returns-clause-are_items
returns-clause-are_items c = λ acts room low.
    ok_of (λ list. list.items) (All (IsItemOf acts)) c.list_third.result (third_part c.args.steps c.args.serving) c.list_third.ensures.items
    (third_is acts c.args.steps c.args.serving room low)

pub returns-clause-few : goal.returns-clause-few
returns-clause-few c =
    ok_of (λ list. list.items) (λ list. length list ≤ most_third) c.list_third.result (third_part c.args.steps c.args.serving)
    c.list_third.ensures.items (length-third c.args.steps c.args.serving)
