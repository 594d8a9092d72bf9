use Rattle.std.proofs.Common.{◌≡◌, drop}
use Rattle.variant_runs.specs.Troubles.{keys_from}
use Rattle.variant_runs.proofs.troubles.add_keys.Given as goal

abbrev pub invariant-loop-name : goal.invariant-loop-name
invariant-loop-name l = keys_from l.initial.list.items l.names ≡ keys_from l.list.items (drop l.name-index l.names)
