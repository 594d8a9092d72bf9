use Rattle.std.proofs.Common.{length}
use Rattle.edge_io.specs.{Cause.NoFault, Used.UsedAsSink}
use Rattle.lte_calc.specs.Lines.{AnsweredUpTo}
use Rattle.lte_calc.proofs.lines.answer_whole.Given as goal

abbrev pub invariant-lines : goal.invariant-lines
invariant-lines g l = record {
  so_far : AnsweredUpTo l.text l.rest l.initial.good l.good (g.W.Edge.told l.initial.out) (g.W.Edge.told l.out);
  no_fault : NoFault (g.W.Edge.told l.initial.out) (g.W.Edge.told l.out);
  out : UsedAsSink (g.W.Edge.told l.initial.out) (g.W.Edge.told l.out);
}

abbrev pub decreases-lines : goal.decreases-lines
decreases-lines g l = length l.rest
