use Rattle.std.proofs.Common.{◌≡◌, []}
use Rattle.scenario_file.specs.{FirstSteps.with_steps, Draws.journey_at, Draws.steps_up_to}
use Rattle.scenario_file.proofs.generator.generated_events.Given as goal

abbrev pub invariant-loop-turn : goal.invariant-loop-turn
invariant-loop-turn l = record {
  first : l.first ≡ with_steps (record { steps = []; most = l.n }) (steps_up_to l.seed l._turn);
  journey : l.journey ≡ journey_at l.seed l._turn;
}
