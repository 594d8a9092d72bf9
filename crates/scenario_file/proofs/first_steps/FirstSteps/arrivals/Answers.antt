use Rattle.std.proofs.Common.{◌∙◌, sym, ap, rules, negsuc, [], ◌∷◌}
use Rattle.lte_events.specs.declared.events.Event.TheVariants as event
use Rattle.scenario_file.specs.FirstSteps.{with_steps}
use Rattle.scenario_file.proofs.TakenSteps.{no_more, one_more}
use Rattle.scenario_file.proofs.first_steps.FirstSteps.arrivals.Goals as goal

pub loop-n-init : goal.loop-n-init
loop-n-init c = sym (no_more c.args.self.now (search rules))

pub loop-n-preserved : goal.loop-n-preserved
loop-n-preserved c =
    c.in_ok-put.ensures.step ∙ ap (λ taken. with_steps taken (event.Deliver (negsuc 0) ∷ [])) c.loop-n.invariant ∙ one_more c.args.self.now c.loop-n._n
