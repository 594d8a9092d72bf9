use Rattle.std.proofs.Common.{◌≤◌, ◌+◌, ap, subst, ◌∙◌, Ok, length, length-append, arith}
use Rattle.std.proofs.{lemmas.List.length-replicate, lemmas.Result.err_from_is_err_and}
use Rattle.fleet_world.specs.Fleets.{Fleeted}
use Rattle.fleet_report.specs.Report.{fleet_report_of}
use Rattle.fleet_report.proofs.Looping.{can_take, event_next, behind_is, end_is, first_is}
use Rattle.run_report.proofs.Partly.{ReportPartly, none_reported, more_reported, coincidence_reported, cut_reported, last_reported}
use Rattle.fleet_report.proofs.reports.write_events.Goals as goal

pub write_event-requires-clause-out_ready : goal.write_event-requires-clause-out_ready
write_event-requires-clause-out_ready g c = c.loop-number.invariant.report.text.used.ready

pub write_event-requires-clause-can : goal.write_event-requires-clause-can
write_event-requires-clause-can g c =
    let so_far = c.loop-number.invariant in
    can_take c.args.fleet.now.setup c.loop-number.fleet c.args.phones c.args.events.now.items c.loop-number.number
    c.at-step.result so_far.setup so_far.phones so_far.count c.at-step.ensures
    c.requires.is_scenario c.requires.of_phones

pub loop-number-init : goal.loop-number-init
loop-number-init g c =
    let begins = c.requires.begun in
    record {
      report =
          none_reported (g.W.Edge.told c.args.out.now) c.requires.out_ready
          (first_is c.args.fleet.now.setup c.args.phones c.args.fleet.now c.args.events.now.items begins);
      setup = ap (λ (v : Fleeted). v.setup) begins;
      over = ap (λ (v : Fleeted). v.over) begins;
      count = ap (λ (v : Fleeted). length v.journal) begins;
      phones = ap (λ (v : Fleeted). length v.worlds) begins ∙ length-replicate c.args.phones _;
    }

pub loop-number-preserved : goal.loop-number-preserved
loop-number-preserved g c =
    let so_far = c.loop-number.invariant in
    let events = c.args.events.now.items in
    let i = c.loop-number.number in
    let v = c.loop-number.fleet in
    let x = c.at-step.result in
    let at = c.at-step.ensures in
    let takes = c.write_event.ensures.takes (c.in_ok-write_event.was ∙ ap Ok c.in-Done.is) in
    let more = more_reported so_far.report (event_next v events i x so_far.over so_far.count at) c.in-Done.is c.in_ok-write_event.ensures.report in
    record {
      report = subst (λ r. ReportPartly (fleet_report_of c.args.fleet.now.setup c.args.phones events) r
          (g.W.Edge.told c.args.out.now) (g.W.Edge.told c.write_event.new.out))
          (behind_is v events i x so_far.over so_far.count at c.write_event.new.fleet takes) more;
      setup = takes.setup ∙ so_far.setup;
      over = takes.over;
      count = ap length takes.journal ∙ length-append v.journal _ ∙ ap (λ n. n + 1) so_far.count;
      phones = takes.worlds ∙ so_far.phones;
    }

pub returns-in-Chance : goal.returns-in-Chance
returns-in-Chance g c =
    let so_far = c.loop-number.invariant in
    let next = event_next c.loop-number.fleet c.args.events.now.items c.loop-number.number c.at-step.result so_far.over
    so_far.count c.at-step.ensures in
    coincidence_reported so_far.report next c.in-Chance.is c.in_ok-write_event.ensures.report

pub returns-in_err-write_event : goal.returns-in_err-write_event
returns-in_err-write_event g c =
    let so_far = c.loop-number.invariant in
    let next = event_next c.loop-number.fleet c.args.events.now.items c.loop-number.number c.at-step.result so_far.over
    so_far.count c.at-step.ensures in
    let p = err_from_is_err_and c.from_residual.result c.from_residual.ensures.1 in
    rw (p.1, p.2)
    (cut_reported so_far.report next c.in_err-write_event.ensures.report)

pub write_ends-requires-clause-out_ready : goal.write_ends-requires-clause-out_ready
write_ends-requires-clause-out_ready g c = c.loop-number.invariant.report.text.used.ready

pub write_ends-requires-clause-few : goal.write_ends-requires-clause-few
write_ends-requires-clause-few g c = let so_far = c.loop-number.invariant in omega (arith, so_far.count, c.requires.is_scenario.few)

pub returns : goal.returns
returns g c =
    let past : length c.args.events.now.items ≤ c.loop-number.number = omega (arith, c.loop-number-test.false, c.len-number-end.ensures) in
    last_reported c.write_ends.result c.loop-number.invariant.report
    (end_is c.loop-number.fleet c.args.events.now.items c.loop-number.number past) c.write_ends.ensures c.and.ensures
