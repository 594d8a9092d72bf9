use Rattle.std.proofs.Common.{drop}
use Rattle.fleet_report.specs.Lines.{texts, row_outputs}
use Rattle.run_report.proofs.Partly.{Partly}
use Rattle.fleet_report.proofs.reports.write_rows.Given as goal

abbrev pub invariant-loop-number : goal.invariant-loop-number
invariant-loop-number g l =
    Partly (texts (row_outputs l.phone l.ladder.rows 0 l.ladder.rows))
    (texts (row_outputs l.phone l.ladder.rows l.number (drop l.number l.ladder.rows))) (g.W.Edge.told l.initial.out)
    (g.W.Edge.told l.out)
