use Rattle.std.proofs.Common.{◌≡◌, ◌+◌, All, length}
use Rattle.lte_events.specs.Scenario.{CanHappen}
use Rattle.item_probe.specs.{Acts.AreInPlace, Acts.acts_of, Places.more_acts}
use Rattle.item_probe.proofs.Happens.{acts_can, length-acts, ok_of}
use Rattle.item_probe.proofs.InPlace.{are_in_place}
use Rattle.item_probe.proofs.acts.acts_of.Goals as goal

pub returns-clause-can_happen : goal.returns-clause-can_happen
returns-clause-can_happen c = λ is all.
    ok_of (λ acts. acts.items) (All (CanHappen c.args.setup.now)) c.list_acts.result (acts_of c.args.setup.now c.args.events.items)
    c.list_acts.ensures.acts (acts_can c.args.setup.now c.args.events.items is all)

pub returns-clause-as_many : goal.returns-clause-as_many
returns-clause-as_many c =
    ok_of (λ acts. acts.items) (λ acts. length acts ≡ length c.args.events.items + more_acts) c.list_acts.result
    (acts_of c.args.setup.now c.args.events.items) c.list_acts.ensures.acts (length-acts c.args.setup.now c.args.events.items)

pub returns-clause-in_place : goal.returns-clause-in_place
returns-clause-in_place c =
    ok_of (λ acts. acts.items) (AreInPlace c.args.setup.now (length c.args.events.items)) c.list_acts.result
    (acts_of c.args.setup.now c.args.events.items) c.list_acts.ensures.acts (are_in_place c.args.setup.now c.args.events.items)
