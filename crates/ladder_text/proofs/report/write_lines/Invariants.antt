use Rattle.std.proofs.Common.{◌≤◌, length}
use Rattle.edge_io.specs.{Cause.NoFault, Used.UsedAsSink}
use Rattle.key_terms.specs.Ladder.{IsLadder}
use Rattle.ladder_text.proofs.Printing.{Printed}
use Rattle.ladder_text.proofs.report.write_lines.Given as goal

abbrev pub invariant-loop-index : goal.invariant-loop-index
invariant-loop-index g l = record {
  printed : Printed l.lines l.index (g.W.Edge.told l.initial.out) (g.W.Edge.told l.out) l.ladder.rows;
  ladder : IsLadder l.ladder.rows;
  rows : length l.ladder.rows ≤ l.index;
  no_fault : NoFault (g.W.Edge.told l.initial.out) (g.W.Edge.told l.out);
  out : UsedAsSink (g.W.Edge.told l.initial.out) (g.W.Edge.told l.out);
}
