use Rattle.std.proofs.Common.{◌≡◌, All, length}
use Rattle.std.proofs.lemmas.List.{length-map}
use Rattle.items.specs.Items.{IsItemOf}
use Rattle.item_faults.specs.AtOnce.{item_of, items_of}
use Rattle.item_faults.proofs.Answered.{are_items, ok_of}
use Rattle.item_faults.proofs.at_once.items_of.Goals as goal

pub returns-clause-are_items : goal.returns-clause-are_items
returns-clause-are_items c = λ acts all.
    ok_of (λ list. list.items) (All (IsItemOf acts)) c.listed.result (items_of c.args.senders.now c.args.entries.now) c.listed.ensures.items
    (are_items acts c.args.senders.now c.args.entries.now all)

pub returns-clause-as_many : goal.returns-clause-as_many
returns-clause-as_many c =
    ok_of (λ list. list.items) (λ list. length list ≡ length c.args.entries.now) c.listed.result
    (items_of c.args.senders.now c.args.entries.now) c.listed.ensures.items
    (length-map c.args.entries.now (item_of c.args.senders.now c.args.entries.now))
