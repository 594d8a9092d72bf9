use Rattle.std.proofs.Common.{◌≡◌, ◌+◌, ◌≤◌, length}
use Rattle.run_report.proofs.Partly.{Partly}
use Rattle.lte_variants.specs.Report.{variant_lines, variants}
use Rattle.lte_variants.proofs.report.write_choices.Given as goal

abbrev pub invariant-choices : goal.invariant-choices
invariant-choices g l = record {
  text : Partly (variant_lines l.sent l.study l.initial.choices) (variant_lines l.sent l.study l.choices) (g.W.Edge.told l.initial.out)
      (g.W.Edge.told l.out);
  count : l.count + variants l.study l.choices ≡ variants l.study l.initial.choices;
  few : l.count + length l.choices ≤ length l.initial.choices;
}

abbrev pub decreases-choices : goal.decreases-choices
decreases-choices g l = length l.choices
