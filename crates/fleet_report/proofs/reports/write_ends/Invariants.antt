use Rattle.std.proofs.Common.{drop}
use Rattle.fleet_world.specs.Fleets.{owns_in}
use Rattle.fleet_report.specs.{Lines.texts, Report.ends_from}
use Rattle.run_report.proofs.Partly.{Partly}
use Rattle.fleet_report.proofs.reports.write_ends.Given as goal

abbrev pub invariant-loop-phone : goal.invariant-loop-phone
invariant-loop-phone g l =
    Partly (texts (ends_from l.fleet.setup 0 (owns_in l.fleet)))
    (texts (ends_from l.fleet.setup l.phone (drop l.phone (owns_in l.fleet)))) (g.W.Edge.told l.initial.out)
    (g.W.Edge.told l.out)
