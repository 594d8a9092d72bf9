use Rattle.std.proofs.Common.{◌≤◌, All, length}
use Rattle.items.specs.Items.{IsItemOf}
use Rattle.item_probe.specs.Parts.{most_second, second_part}
use Rattle.item_probe.proofs.{Chained.length-second, Chained.second_is, Happens.ok_of}
use Rattle.item_probe.proofs.parts.second_part.Goals as goal

pub returns-clause-are_items : goal.returns-clause-are_items
returns-clause-are_items c = λ acts room low.
    ok_of (λ list. list.items) (All (IsItemOf acts)) c.list_second.result (second_part c.args.setup.now c.args.steps c.args.serving)
    c.list_second.ensures.items (second_is acts c.args.setup.now c.args.steps c.args.serving room low)

pub returns-clause-few : goal.returns-clause-few
returns-clause-few c =
    ok_of (λ list. list.items) (λ list. length list ≤ most_second) c.list_second.result
    (second_part c.args.setup.now c.args.steps c.args.serving) c.list_second.ensures.items
    (length-second c.args.setup.now c.args.steps c.args.serving)
