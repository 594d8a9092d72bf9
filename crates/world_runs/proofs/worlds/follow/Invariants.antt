use Rattle.std.proofs.Common.{◌≡◌}
use Rattle.world_runs.proofs.worlds.follow.Given as goal

abbrev pub invariant-loop-number : goal.invariant-loop-number
invariant-loop-number g l = l.two.world.setup ≡ l.initial.two.world.setup
