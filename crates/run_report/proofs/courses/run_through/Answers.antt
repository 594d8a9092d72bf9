use Rattle.std.proofs.Common.{◌≡◌, ◌∙◌, sym, ap, subst, Err, [], length, arith}
use Rattle.lte_machine.specs.BothRuns.{octet_report}
use Rattle.lte_world.specs.Whole.{run_of}
use Rattle.run_report.specs.{Counted.Tells, Events.told_of, Events.CanShow, Summary.outcome_from, Summary.Coincides}
use Rattle.run_report.proofs.Counting.{none_counted, next_counted, coincides_at, all_counted}
use Rattle.run_report.proofs.HappenedSoFar.{none_taken, can_take, one_taken, left_at}
use Rattle.run_report.proofs.ReportByEvent.{is_plain}
use Rattle.run_report.proofs.courses.run_through.Goals as goal

pub loop-number-init : goal.loop-number-init
loop-number-init c =
    let runs = ap run_of c.requires.begun in
    record { took = none_taken c.requires.begun runs; counted = none_counted c.args.events.now.items runs c.requires.none }

pub happen-requires : goal.happen-requires
happen-requires c = can_take c.at-event.result c.requires.is_scenario c.loop-number.invariant.took c.at-event.ensures

pub count-requires : goal.count-requires
count-requires c =
    let so_far = c.loop-number.invariant.counted in
    omega (
      arith,
      so_far.number,
      ap (λ t. t.steps) so_far.tallied,
      c.loop-number-test.true,
      c.len-number-end.ensures,
      c.requires.is_scenario.few,
    )

pub loop-number-preserved : goal.loop-number-preserved
loop-number-preserved c =
    let so_far = c.loop-number.invariant in
    let events = c.args.events.now.items in
    let i = c.loop-number.number in
    let v = c.loop-number.world in
    let e = c.at-event.result in
    let left = left_at events i e c.at-event.ensures in
    let takes = c.in-Ok.ensures.takes in
    record {
      took = one_taken e so_far.took (is_plain (told_of (run_of v) e) c.in-Ok.line c.in-Ok.ensures.tells) takes;
      counted =
          next_counted (run_of c.happen.new.world) c.count.new.self e c.in-Ok.line so_far.counted left
          c.in-Ok.ensures.tells c.count.ensures.lines takes.run;
    }

pub returns-in-Err-Chance-clause-comes_out : goal.returns-in-Err-Chance-clause-comes_out
returns-in-Err-Chance-clause-comes_out c =
    let so_far = c.loop-number.invariant in
    let events = c.args.events.now.items in
    let i = c.loop-number.number in
    let v = c.loop-number.world in
    let e = c.at-event.result in
    let left = left_at events i e c.at-event.ensures in
    let step = c.len-step.ensures ∙ ap length c.journal.ensures ∙ ap length c.in-Err-Chance.ensures.same ∙ so_far.took.count in
    let tells = subst (λ f. Tells (told_of (run_of v) e) (Err f)) c.in-Err-Chance.field-0-is c.in-Err-Chance.ensures.tells in
    let found = coincides_at c.len-step.result e c.in-Err-Chance.proof so_far.counted left step tells in
    subst (λ p.
    (outcome_from [] (octet_report c.args.world.now.setup events) ≡ Coincides c.len-step.result p) × CanShow p)
    (sym c.in-Err-Chance.proof-is) found

pub returns-clause-comes_out : goal.returns-clause-comes_out
returns-clause-comes_out c = all_counted c.loop-number.invariant.counted c.loop-number.invariant.took.goes
    (omega (arith, c.loop-number-test.false, c.len-number-end.ensures))
