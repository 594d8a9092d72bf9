use Rattle.std.proofs.Common.{subst, length}
use Rattle.std.proofs.lemmas.Result.{err_from_is_err_and}
use Rattle.std.specs.List.{flat_map}
use Rattle.run_report.specs.Written.{WritesText}
use Rattle.run_report.proofs.Partly.{both_written, first_cut}
use Rattle.lte_variants.specs.Report.{line_at, message_lines, scenario_told}
use Rattle.lte_variants.proofs.report.write_messages.Goals as goal

pub write_each-requires : goal.write_each-requires
write_each-requires g c = c.in_ok-write_scenario.ensures.used.ready

pub returns : goal.returns
returns g c =
    let o = c.args.study.now in
    let messages = c.args.messages.now in
    both_written c.write_each.result (scenario_told o (length messages)) (message_lines o messages) c.requires.out_ready
    c.in_ok-write_scenario.ensures
    (subst (λ s. WritesText (flat_map (line_at s) messages) c.write_each.result (g.W.Edge.told c.write_scenario.new.out) (g.W.Edge.told c.write_each.new.out))
    c.steps.ensures c.write_each.ensures)

pub returns-in_err-write_scenario : goal.returns-in_err-write_scenario
returns-in_err-write_scenario g c =
    let p = err_from_is_err_and c.from_residual.result c.from_residual.ensures.1 in
    let o = c.args.study.now in
    let messages = c.args.messages.now in
    rw (p.1, p.2)
    (first_cut (scenario_told o (length messages)) (message_lines o messages) c.requires.out_ready c.in_err-write_scenario.ensures)
