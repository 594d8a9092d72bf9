use Rattle.std.proofs.Common.{refl, ap, ◌∙◌, Ok, rules}
use Rattle.std.proofs.lemmas.Result.{err_from_is_err_and}
use Rattle.run_report.proofs.Partly.{none_reported, more_reported, coincidence_reported, cut_reported, last_reported}
use Rattle.core_relocation.proofs.SoFar.{whole_is, follows, taken_more, ends}
use Rattle.core_relocation.proofs.reports.write_answers.Goals as goal

pub loop-number-init : goal.loop-number-init
loop-number-init g c = record {
  report = none_reported (g.W.Edge.told c.args.out.now) c.requires.out_ready (whole_is c.args.two.now.world.setup c.args.two.now.cores.core_of c.args.events.now.items);
  events = c.requires.begun;
  setup = refl;
  core_of = refl;
  runs = c.requires.runs;
}

pub write_answer-requires-clause-out_ready : goal.write_answer-requires-clause-out_ready
write_answer-requires-clause-out_ready g c = c.loop-number.invariant.report.text.used.ready

pub loop-number-preserved : goal.loop-number-preserved
loop-number-preserved g c =
    let so_far = c.loop-number.invariant in
    let takes = c.write_answer.ensures.takes (c.in_ok-write_answer.was ∙ ap Ok c.in-Done.is) in
    record {
      report = more_reported so_far.report
          (follows c.args.two.now.world.setup c.args.two.now.cores.core_of c.args.events.now.items c.loop-number.two so_far.setup
          so_far.core_of c.loop-number.number so_far.events c.at-event.result c.at-event.ensures)
          c.in-Done.is c.in_ok-write_answer.ensures.report;
      events =
          taken_more c.args.two.now.world.setup c.args.two.now.cores.core_of c.args.events.now.items c.loop-number.two so_far.setup
          so_far.core_of c.loop-number.number so_far.events c.at-event.result c.at-event.ensures _ takes.events;
      setup = takes.setup ∙ so_far.setup;
      core_of = takes.core_of ∙ so_far.core_of;
      runs = takes.runs;
    }

pub returns-in-Chance : goal.returns-in-Chance
returns-in-Chance g c =
    let so_far = c.loop-number.invariant in
    coincidence_reported so_far.report
    (follows c.args.two.now.world.setup c.args.two.now.cores.core_of c.args.events.now.items c.loop-number.two so_far.setup so_far.core_of
    c.loop-number.number so_far.events c.at-event.result c.at-event.ensures)
    c.in-Chance.is c.in_ok-write_answer.ensures.report

pub returns-in_err-write_answer : goal.returns-in_err-write_answer
returns-in_err-write_answer g c =
    let so_far = c.loop-number.invariant in
    let p = err_from_is_err_and c.from_residual.result c.from_residual.ensures.1 in
    rw (p.1, p.2)
    (cut_reported so_far.report
    (follows c.args.two.now.world.setup c.args.two.now.cores.core_of c.args.events.now.items c.loop-number.two so_far.setup so_far.core_of
    c.loop-number.number so_far.events c.at-event.result c.at-event.ensures)
    c.in_err-write_answer.ensures.report)

pub write_end-requires-clause-out_ready : goal.write_end-requires-clause-out_ready
write_end-requires-clause-out_ready g c = c.loop-number.invariant.report.text.used.ready

pub returns : goal.returns
returns g c =
    let so_far = c.loop-number.invariant in
    last_reported c.write_end.result so_far.report
    (ends c.args.two.now.world.setup c.args.two.now.cores.core_of c.args.events.now.items c.loop-number.two so_far.setup so_far.core_of
    c.loop-number.number so_far.events c.world.result.now c.world.ensures.value
    (c.world.ensures.journal so_far.runs) (c.world.ensures.run so_far.runs) (search rules) (search rules))
    c.write_end.ensures c.and.ensures
