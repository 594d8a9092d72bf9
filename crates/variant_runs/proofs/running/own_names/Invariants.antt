use Rattle.std.proofs.Common.{◌≡◌, drop}
use Rattle.variant_runs.specs.Judged.{own_names, put_in_from}
use Rattle.variant_runs.proofs.running.own_names.Given as goal

abbrev pub invariant-loop-entry : goal.invariant-loop-entry
invariant-loop-entry l = own_names l.faults l.list ≡ put_in_from l.names.items (drop l.entry-index l.list)
