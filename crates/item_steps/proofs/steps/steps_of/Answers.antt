use Rattle.std.proofs.Common.{◌≡◌, length, All}
use Rattle.item_faults.specs.Laws.{IsStep}
use Rattle.item_faults.proofs.Answered.{ok_of}
use Rattle.item_steps.specs.Steps.{steps_of}
use Rattle.item_steps.proofs.EachIsAStep.{are_steps, length-steps}
use Rattle.item_steps.proofs.steps.steps_of.Goals as goal

pub returns-clause-are_steps : goal.returns-clause-are_steps
returns-clause-are_steps c =
    ok_of (λ list. list.items) (All (IsStep (length c.args.events.now.items))) c.listed.result (steps_of c.args.events.now.items c.args.told.now)
    c.listed.ensures.steps (are_steps c.args.events.now.items c.args.told.now)

pub returns-clause-as_many : goal.returns-clause-as_many
returns-clause-as_many c =
    ok_of (λ list. list.items) (λ list. length list ≡ length c.args.events.now.items) c.listed.result
    (steps_of c.args.events.now.items c.args.told.now) c.listed.ensures.steps
    (length-steps c.args.events.now.items c.args.told.now c.requires.a_line_each)
