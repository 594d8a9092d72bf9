use Rattle.std.proofs.Common.{◌≡◌, Some, rules}
use Rattle.enb_context.specs.Attempt.{attempt_of}
use Rattle.enb_context.proofs.OrderSteps.{not_ready, no_count, ordered_so}
use Rattle.enb_context.proofs.context.Context.command.Goals as goal

pub returns-then-is_open-clause-step : goal.returns-then-is_open-clause-step
returns-then-is_open-clause-step c = λ s.
    not_ready s c.args.id c.args.self.now (attempt_of c.in-Some.attempt) (search rules) _ (search rules) (search rules)

pub returns-then-is_spent-clause-step : goal.returns-then-is_spent-clause-step
returns-then-is_spent-clause-step c = λ s.
    no_count s c.args.id c.args.self.now (attempt_of c.in-Some.attempt) (search rules) _ (search rules) (search rules) (search rules)

pub returns-clause-step : goal.returns-clause-step
returns-clause-step c = λ s.
    let has : c.args.self.now.attempt ≡ Some (attempt_of c.in-Some.attempt) = search rules in
    ordered_so s c.args.id c.args.self.now (attempt_of c.in-Some.attempt) has _ (search rules) (c.order.ensures.step s (attempt_of c.in-Some.attempt) has)
