use Rattle.std.proofs.Common.{◌≡◌, None, drop}
use Rattle.item_runs.specs.Reach.{last_key_from}
use Rattle.item_runs.proofs.reach.last_key.Given as goal

abbrev pub invariant-loop-t : goal.invariant-loop-t
invariant-loop-t l = last_key_from None l.told ≡ last_key_from l.key (drop l.t-index l.told)
