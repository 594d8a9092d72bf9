use Rattle.std.proofs.Common.{drop}
use Rattle.std.specs.List.{flat_map}
use Rattle.run_report.proofs.Partly.{Partly}
use Rattle.variant_text.specs.Lines.{trouble_line}
use Rattle.lte_variants.proofs.report.write_troubles.Given as goal

abbrev pub invariant-loop-trouble : goal.invariant-loop-trouble
invariant-loop-trouble g l =
    Partly (flat_map (trouble_line l.steps) l.troubles) (flat_map (trouble_line l.steps) (drop l.trouble-index l.troubles))
    (g.W.Edge.told l.initial.out) (g.W.Edge.told l.out)
