use Rattle.report_text.specs.Summary.{figures_text}
use Rattle.run_report.proofs.{Figures.figures_from, Partly.Partly}
use Rattle.run_report.proofs.summaries.write_figures.Given as goal

abbrev pub invariant-loop-figure : goal.invariant-loop-figure
invariant-loop-figure g l =
    Partly (figures_text l.tally l.rows) (figures_from l.tally l.rows l.figure-index) (g.W.Edge.told l.initial.out)
    (g.W.Edge.told l.out)
