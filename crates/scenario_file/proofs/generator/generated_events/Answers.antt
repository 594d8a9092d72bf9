use Rattle.std.proofs.Common.{◌∙◌, ◌≡◌, ◌≤◌, ap, sym, subst, false, length}
use Rattle.scenario_file.specs.FirstSteps.{Taken, with_steps}
use Rattle.scenario_file.specs.Draws.{opening, turn_of, after, steps_of, steps_up_to}
use Rattle.scenario_file.proofs.TakenSteps.{then}
use Rattle.scenario_file.proofs.Generated.{all_taken, enough_where_full, enough_at_last, next_steps, next_journey}
use Rattle.scenario_file.proofs.generator.generated_events.Goals.{else-loop-turn-test, then-loop-turn-test+then-is_full}
use Rattle.scenario_file.proofs.generator.generated_events.Goals as goal

pub loop-turn-init : goal.loop-turn-init
loop-turn-init c = record {
  first = c.in_ok-add_opening.ensures.steps ∙ ap (λ taken. with_steps taken opening) c.new-first.ensures;
  journey = ap (λ x. record { state = x; serving = 0; unanswered = false }) c.from.ensures;
}

pub loop-turn-preserved : goal.loop-turn-preserved
loop-turn-preserved c = record {
  first = rw (next_steps c.args.seed c.loop-turn._turn) (then _ _ _ _ _ c.loop-turn.invariant.first
      (c.in_ok-add_to.ensures.steps
      ∙ ap (λ turn. with_steps c.loop-turn.first (steps_of turn))
      (c.turn.ensures.turn ∙ ap turn_of c.loop-turn.invariant.journey)));
  journey = c.turn.ensures.journey ∙ ap after c.loop-turn.invariant.journey ∙ sym (next_journey c.args.seed c.loop-turn._turn);
}

pub returns-clause-events : goal.returns-clause-events
returns-clause-events c =
    let enough : c.args.n ≤ length (steps_up_to c.args.seed c.loop-turn._turn) = elim c.loop-turn-test.branch [
      | else-loop-turn-test w ↦ enough_at_last c.args.n c.args.seed c.loop-turn._turn w.loop-turn-test.false
      | then-loop-turn-test+then-is_full w ↦ enough_where_full c.args.n c.args.seed c.loop-turn._turn
          (subst (λ (taken : Taken). length taken.steps ≡ taken.most) c.loop-turn.invariant.first (w.is_full.ensures.0 w.if-is_full.true))
    ] in
    c.into_steps.ensures.value
    ∙ ap (λ taken. taken.steps) c.loop-turn.invariant.first
    ∙ all_taken c.args.n c.args.seed c.loop-turn._turn c.loop-turn.auto._turn-end enough
