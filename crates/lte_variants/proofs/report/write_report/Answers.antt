use Rattle.std.proofs.Common.{◌≡◌, ◌∙◌, ap, subst}
use Rattle.run_report.specs.Written.{WritesText}
use Rattle.lte_variants.specs.Report.{messages_asked}
use Rattle.lte_variants.proofs.Telling.{report_is}
use Rattle.lte_variants.proofs.report.write_report.Goals as goal

pub returns-in-Ok : goal.returns-in-Ok
returns-in-Ok g c =
    let r = c.args.request.now in
    let o = c.args.study.now in
    let is : c.as_slice.result.now ≡ messages_asked r o.steps =
    c.as_slice.ensures.value ∙ c.in-Ok.ensures.messages ∙ ap (messages_asked r) c.steps.ensures in
    subst (λ t. WritesText t c.write_parts.result (g.W.Edge.told c.args.out.now) (g.W.Edge.told c.write_parts.new.out))
    (report_is r o c.as_slice.result.now is) c.write_parts.ensures
