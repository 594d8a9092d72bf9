use Rattle.std.proofs.Common.{◌≡◌, take}
use Rattle.run_report.proofs.Partly.{ReportPartly}
use Rattle.core_relocation.specs.{Report.two_report_of, Whole.StillRuns}
use Rattle.core_relocation.proofs.SoFar.{rest_at}
use Rattle.core_relocation.proofs.reports.write_answers.Given as goal

abbrev pub invariant-loop-number : goal.invariant-loop-number
invariant-loop-number g l = record {
  report : ReportPartly (two_report_of l.initial.two.world.setup l.initial.two.cores.core_of l.events.items)
      (rest_at l.initial.two.world.setup l.initial.two.cores.core_of l.events.items l.number) (g.W.Edge.told l.initial.out) (g.W.Edge.told l.out);
  events : l.two.events ≡ take l.number l.events.items;
  setup : l.two.world.setup ≡ l.initial.two.world.setup;
  core_of : l.two.cores.core_of ≡ l.initial.two.cores.core_of;
  runs : StillRuns l.two;
}
