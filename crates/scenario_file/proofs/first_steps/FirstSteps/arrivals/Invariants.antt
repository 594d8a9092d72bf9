use Rattle.std.proofs.Common.{◌≡◌}
use Rattle.scenario_file.specs.{Draws.arrivals, FirstSteps.with_steps}
use Rattle.scenario_file.proofs.first_steps.FirstSteps.arrivals.Given as goal

abbrev pub invariant-loop-n : goal.invariant-loop-n
invariant-loop-n l = l.self ≡ with_steps l.fn.self (arrivals l._n)
