use Rattle.std.proofs.{Common.◌≡◌, Common.length, lemmas.List.length-map}
use Rattle.item_faults.specs.{Laws.AreEntries, Steps.entries_of, Steps.entry_of}
use Rattle.item_faults.proofs.Answered.{are_entries, ok_of}
use Rattle.item_faults.proofs.steps.entries_of.Goals as goal

pub returns-clause-are_entries : goal.returns-clause-are_entries
returns-clause-are_entries c = λ total room all.
    ok_of (λ list. list.items) (AreEntries total) c.entries_by.result (entries_of c.args.acts c.args.steps.now) c.entries_by.ensures.entries
    (are_entries c.args.acts total c.args.steps.now room all)

pub returns-clause-as_many : goal.returns-clause-as_many
returns-clause-as_many c =
    ok_of (λ list. list.items) (λ list. length list ≡ length c.args.steps.now) c.entries_by.result (entries_of c.args.acts c.args.steps.now)
    c.entries_by.ensures.entries (length-map c.args.steps.now (entry_of c.args.acts c.args.steps.now))
