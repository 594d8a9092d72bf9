use Rattle.std.proofs.Common.{◌≡◌, drop}
use Rattle.item_probe.specs.Acts.{own_cell}
use Rattle.item_probe.proofs.acts.own_cell.Given as goal

abbrev pub invariant-loop-number : goal.invariant-loop-number
invariant-loop-number l = own_cell l.cells l.id ≡ own_cell (drop l.number l.cells) l.id
