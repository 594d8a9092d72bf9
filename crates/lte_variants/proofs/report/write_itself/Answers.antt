use Rattle.std.proofs.Common.{◌≡◌, subst, length, IfOk}
use Rattle.std.proofs.lemmas.Result.{err_from_is_err_and}
use Rattle.std.specs.{List.flat_map, String.string_bytes}
use Rattle.edge_io.proofs.Ending.{text_is}
use Rattle.item_outcomes.specs.Heals.{heals_of}
use Rattle.run_report.specs.Written.{WritesText}
use Rattle.run_report.proofs.Partly.{both_written, first_cut}
use Rattle.variant_text.specs.Lines.{scenario_line, trouble_line}
use Rattle.lte_variants.specs.Report.{trouble_lines}
use Rattle.lte_variants.proofs.Ends.{scenario_is}
use Rattle.lte_variants.proofs.report.write_itself.Goals as goal

pub write_string-requires-clause-lines : goal.write_string-requires-clause-lines
write_string-requires-clause-lines g c = text_is string_bytes _ _ c.scenario_line-line.ensures.text (scenario_is _ _ _ _)

pub write_troubles-requires : goal.write_troubles-requires
write_troubles-requires g c = (c.in_ok-write_string.ensures _ c.scenario_line-line.ensures.text).used.ready

pub returns : goal.returns
returns g c =
    let o = c.args.study.now in
    let troubles = c.args.troubles.now in
    let heals = heals_of o.usual.told in
    let line = scenario_line (length o.steps) c.args.messages o.usual.serving heals in
    let text = subst (λ s. IfOk c.scenario_line-line.result (λ t. string_bytes t ≡ scenario_line (length s) c.args.messages o.usual.serving heals))
    c.steps.ensures
    (subst (λ n. IfOk c.scenario_line-line.result (λ t. string_bytes t ≡ scenario_line (length c.steps.result.now) c.args.messages n heals))
    c.serving.ensures
    (subst (λ h. IfOk c.scenario_line-line.result (λ t. string_bytes t ≡ scenario_line (length c.steps.result.now) c.args.messages c.serving.result h))
    c.heals.ensures c.scenario_line-line.ensures.text)) in
    both_written c.write_troubles.result line (trouble_lines o troubles) c.requires.out_ready (c.in_ok-write_string.ensures line text)
    (subst (λ s. WritesText (flat_map (trouble_line (length s)) troubles) c.write_troubles.result (g.W.Edge.told c.write_string.new.out) (g.W.Edge.told c.write_troubles.new.out))
    c.steps.ensures c.write_troubles.ensures)

pub returns-in_err-write_string : goal.returns-in_err-write_string
returns-in_err-write_string g c =
    let p = err_from_is_err_and c.from_residual.result c.from_residual.ensures.1 in
    let o = c.args.study.now in
    let heals = heals_of o.usual.told in
    let line = scenario_line (length o.steps) c.args.messages o.usual.serving heals in
    let text = subst (λ s. IfOk c.scenario_line-line.result (λ t. string_bytes t ≡ scenario_line (length s) c.args.messages o.usual.serving heals))
    c.steps.ensures
    (subst (λ n. IfOk c.scenario_line-line.result (λ t. string_bytes t ≡ scenario_line (length c.steps.result.now) c.args.messages n heals))
    c.serving.ensures
    (subst (λ h. IfOk c.scenario_line-line.result (λ t. string_bytes t ≡ scenario_line (length c.steps.result.now) c.args.messages c.serving.result h))
    c.heals.ensures c.scenario_line-line.ensures.text)) in
    rw (p.1, p.2)
    (first_cut line (trouble_lines o c.args.troubles.now) c.requires.out_ready (c.in_err-write_string.ensures line text))
