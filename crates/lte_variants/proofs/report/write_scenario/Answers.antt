use Rattle.std.proofs.Common.{◌≡◌, ◌∙◌, subst}
use Rattle.run_report.specs.Written.{WritesText}
use Rattle.variant_runs.specs.Troubles.{troubles_of}
use Rattle.lte_variants.specs.Report.{scenario_with}
use Rattle.lte_variants.proofs.report.write_scenario.Goals as goal

pub returns-in-Ok : goal.returns-in-Ok
returns-in-Ok g c =
    let o = c.args.study.now in
    let is : c.as_slice.result.now ≡ troubles_of o.usual o.acts o.steps = c.as_slice.ensures.value ∙ c.in-Ok.ensures.troubles in
    subst (λ ts. WritesText (scenario_with o c.args.messages ts) c.write_itself.result (g.W.Edge.told c.args.out.now) (g.W.Edge.told c.write_itself.new.out))
    is c.write_itself.ensures
