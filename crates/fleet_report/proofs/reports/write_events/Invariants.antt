use Rattle.std.proofs.Common.{◌≡◌, None, length}
use Rattle.fleet_report.specs.Report.{fleet_report_of}
use Rattle.run_report.proofs.Partly.{ReportPartly}
use Rattle.fleet_report.proofs.reports.write_events.Given as goal
use Rattle.fleet_report.proofs.Looping.{left_of}

abbrev pub invariant-loop-number : goal.invariant-loop-number
invariant-loop-number g l = record {
  report : ReportPartly (fleet_report_of l.initial.fleet.setup l.fn.phones l.events.items)
      (left_of l.fleet l.events.items l.number) (g.W.Edge.told l.initial.out) (g.W.Edge.told l.out);
  setup : l.fleet.setup ≡ l.initial.fleet.setup;
  over : l.fleet.over ≡ None;
  count : length l.fleet.journal ≡ l.number;
  phones : length l.fleet.worlds ≡ l.fn.phones;
}
