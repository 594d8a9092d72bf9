use Rattle.std.proofs.Common.{◌≡◌, drop}
use Rattle.item_faults.specs.Entries.{kept_from}
use Rattle.item_faults.proofs.entries.keep.Given as goal

abbrev pub invariant-loop-e : goal.invariant-loop-e
invariant-loop-e l =
    kept_from l.gone l.initial.kept.items l.entries ≡ kept_from l.gone l.kept.items (drop l.e-index l.entries)
