use Rattle.std.proofs.Common.{◌≡◌}
use Rattle.edge_io.specs.{Cause.NoFault, Used.UsedAsSource, Used.UsedAsSink}
use Rattle.lte_calc.specs.Run.{IsLine}
use Rattle.lte_calc.proofs.Running.{Midway}
use Rattle.lte_calc.proofs.lines.read_lines.Given as goal

abbrev pub invariant-pieces : goal.invariant-pieces
invariant-pieces g l = record {
  midway : Midway l.held.items l.good (g.R.Edge.told l.initial.input) (g.R.Edge.told l.input) (g.W.Edge.told l.initial.out) (g.W.Edge.told l.out);
  begun : IsLine l.held.items;
  no_read_fault : NoFault (g.R.Edge.told l.initial.input) (g.R.Edge.told l.input);
  no_write_fault : NoFault (g.W.Edge.told l.initial.out) (g.W.Edge.told l.out);
  met : (g.R.Edge.told l.input).ended ≡ (g.R.Edge.told l.initial.input).ended;
  input : UsedAsSource (g.R.Edge.told l.initial.input) (g.R.Edge.told l.input);
  out : UsedAsSink (g.W.Edge.told l.initial.out) (g.W.Edge.told l.out);
}

abbrev pub decreases-pieces : goal.decreases-pieces
decreases-pieces g l = (g.R.Edge.told l.input).most
