use Rattle.std.proofs.Common.{length, drop}
use Rattle.lte_world.specs.Whole.{run_of}
use Rattle.run_report.specs.Report.{report_of}
use Rattle.run_report.proofs.{Partly.ReportPartly, HappenedSoFar.Took, ReportByEvent.report_from}
use Rattle.run_report.proofs.reports.write_events.Given as goal

abbrev pub invariant-loop-number : goal.invariant-loop-number
invariant-loop-number g l = record {
  took : Took l.initial.world.setup l.number l.world;
  report : ReportPartly (report_of l.initial.world.setup l.events.items)
      (report_from (length l.events.items) l.number (run_of l.world) (drop l.number l.events.items))
      (g.W.Edge.told l.initial.out) (g.W.Edge.told l.out);
}
