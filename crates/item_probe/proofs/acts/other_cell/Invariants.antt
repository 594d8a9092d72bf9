use Rattle.std.proofs.Common.{◌≡◌, drop}
use Rattle.item_probe.specs.Acts.{other_cell}
use Rattle.item_probe.proofs.acts.other_cell.Given as goal

abbrev pub invariant-loop-number : goal.invariant-loop-number
invariant-loop-number l = other_cell l.cells l.id ≡ other_cell (drop l.number l.cells) l.id
