use Rattle.std.proofs.Common.{◌≤◌, sym, ap, ◌∙◌, refl, Ok, length, rules, arith}
use Rattle.std.proofs.lemmas.Result.{err_from_is_err_and}
use Rattle.lte_world.specs.Whole.{run_of}
use Rattle.run_report.proofs.Partly.{none_reported, more_reported, coincidence_reported, cut_reported, last_reported}
use Rattle.run_report.proofs.HappenedSoFar.{none_taken, can_take, one_taken, follows}
use Rattle.run_report.proofs.ReportByEvent.{report_is, report_from, report_ends}
use Rattle.run_report.proofs.reports.write_events.Goals as goal

pub loop-number-init : goal.loop-number-init
loop-number-init g c =
    let runs = ap run_of c.requires.begun in
    record {
      took = none_taken c.requires.begun runs;
      report = none_reported (g.W.Edge.told c.args.out.now) c.requires.out_ready
          (report_is c.requires.is_scenario ∙ ap (λ run. report_from (length c.args.events.now.items) 0 run c.args.events.now.items) (sym runs));
    }

pub write_event-requires-clause-can : goal.write_event-requires-clause-can
write_event-requires-clause-can g c = can_take c.at-event.result c.requires.is_scenario c.loop-number.invariant.took c.at-event.ensures

pub loop-number-preserved : goal.loop-number-preserved
loop-number-preserved g c =
    let so_far = c.loop-number.invariant in
    let done = c.in-Done.is in
    let takes = c.write_event.ensures.takes (c.in_ok-write_event.was ∙ ap Ok done) in
    record {
      took = one_taken c.at-event.result so_far.took (sym c.in_ok-write_event.ensures.report.ends ∙ done) takes;
      report = more_reported so_far.report (follows c.args.events.now.items _ so_far.took c.at-event.ensures takes.run) done c.in_ok-write_event.ensures.report;
    }

pub returns-in-Chance : goal.returns-in-Chance
returns-in-Chance g c =
    let so_far = c.loop-number.invariant in
    coincidence_reported so_far.report (follows c.args.events.now.items _ so_far.took c.at-event.ensures refl) c.in-Chance.is c.in_ok-write_event.ensures.report

pub returns-in_err-write_event : goal.returns-in_err-write_event
returns-in_err-write_event g c =
    let p = err_from_is_err_and c.from_residual.result c.from_residual.ensures.1 in
    let so_far = c.loop-number.invariant in
    rw (p.1, p.2) (cut_reported so_far.report (follows c.args.events.now.items _ so_far.took c.at-event.ensures refl) c.in_err-write_event.ensures.report)

pub write_end-requires-clause-few : goal.write_end-requires-clause-few
write_end-requires-clause-few g c = let took = c.loop-number.invariant.took in omega (arith, took.count, c.requires.is_scenario.few)

pub returns : goal.returns
returns g c =
    let so_far = c.loop-number.invariant in
    let i = c.loop-number.number in
    let events = c.args.events.now.items in
    let v = c.loop-number.world in
    let low : i ≤ length events = search rules in
    let past : length events ≤ i = omega (arith, c.loop-number-test.false, c.len-number-end.ensures) in
    last_reported c.write_end.result so_far.report (report_ends i (length v.journal) (run_of v) events so_far.took.count low past)
    c.write_end.ensures c.and.ensures
