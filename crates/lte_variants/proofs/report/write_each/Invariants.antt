use Rattle.std.proofs.Common.{drop}
use Rattle.std.specs.List.{flat_map}
use Rattle.run_report.proofs.Partly.{Partly}
use Rattle.lte_variants.specs.Report.{line_at}
use Rattle.lte_variants.proofs.report.write_each.Given as goal

abbrev pub invariant-loop-message : goal.invariant-loop-message
invariant-loop-message g l =
    Partly (flat_map (line_at l.steps) l.messages) (flat_map (line_at l.steps) (drop l.message-index l.messages))
    (g.W.Edge.told l.initial.out) (g.W.Edge.told l.out)
