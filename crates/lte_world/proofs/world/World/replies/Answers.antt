use Rattle.std.proofs.Common.{ap, sym, ◌∙◌, subst}
use Rattle.std.specs.List.{AllByRecursion as AllOf}
use Rattle.lte_world.specs.Replies.{UnlessOver, RepliedLast, IsOfSetup}
use Rattle.lte_world.proofs.{LastReplies.replies_there, Reading.there_is}
use Rattle.lte_world.proofs.world.World.replies.Goals as goal

pub returns-clause-there : goal.returns-clause-there
returns-clause-there c = λ none.
    let is = there_is c.self.inside.setup c.self.inside.journal.items c.self.inside.over c.self.inside.ready
    c.self.inside.system c.self.invariant.3 c.args.self.now c.self.view_is none in
    subst (AllOf (λ r. IsOfSetup c.args.self.now.setup r.0)) (sym c.listed.ensures)
    (subst (λ v. AllOf (λ r. IsOfSetup v.setup r.0) c.self.inside.replies) c.self.view_is
    (replies_there c.self.inside.setup c.self.inside.journal.items c.self.inside.replies is.0 is.1
    (subst (λ o. UnlessOver o (RepliedLast c.self.inside.setup c.self.inside.journal.items c.self.inside.replies))
    (ap (λ v. v.over) c.self.view_is ∙ none) c.self.invariant.4)))
