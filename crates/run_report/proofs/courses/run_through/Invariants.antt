use Rattle.lte_world.specs.Whole.{run_of}
use Rattle.run_report.proofs.{Counting.CountedTo, HappenedSoFar.Took}
use Rattle.run_report.proofs.courses.run_through.Given as goal

abbrev pub invariant-loop-number : goal.invariant-loop-number
invariant-loop-number l = record {
  took : Took l.initial.world.setup l.number l.world;
  counted : CountedTo l.initial.world.setup l.events.items l.number (run_of l.world) l.tally;
}
