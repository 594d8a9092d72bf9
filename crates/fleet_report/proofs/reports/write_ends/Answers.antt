use Rattle.std.proofs.Common.{◌<◌, subst, Ok, Err, length, arith}
use Rattle.std.proofs.lemmas.Result.{err_from_is_err_and}
use Rattle.run_report.specs.Written.{WritesText}
use Rattle.run_report.proofs.Partly.{none_written, more_written, cut_written, all_written}
use Rattle.fleet_world.specs.Fleets.{owns_in}
use Rattle.fleet_report.specs.{Lines.texts, Report.ends_from}
use Rattle.fleet_report.proofs.Ending.{goes_on, few, text_is}
use Rattle.fleet_report.proofs.ReportByPiece.{end_next, ends_past, many_owns}
use Rattle.fleet_report.proofs.reports.write_ends.Goals as goal

pub loop-phone-init : goal.loop-phone-init
loop-phone-init g c = none_written (texts (ends_from c.args.fleet.now.setup 0 (owns_in c.args.fleet.now))) (g.W.Edge.told c.args.out.now) c.requires.out_ready

pub write_end-requires-clause-out_ready : goal.write_end-requires-clause-out_ready
write_end-requires-clause-out_ready g c = c.loop-phone.invariant.used.ready

pub write_end-requires-clause-goes_on : goal.write_end-requires-clause-goes_on
write_end-requires-clause-goes_on g c =
    let sound = c.world.ensures.sound c.requires.goes_on in
    goes_on c.args.fleet.now c.loop-phone.phone c.world.result.now (c.world.ensures.own c.requires.goes_on) sound.0 sound.1

pub write_end-requires-clause-few : goal.write_end-requires-clause-few
write_end-requires-clause-few g c =
    let sound = c.world.ensures.sound c.requires.goes_on in
    few c.args.fleet.now c.loop-phone.phone c.world.result.now (c.world.ensures.own c.requires.goes_on) sound.0 sound.1 c.requires.few

pub loop-phone-preserved : goal.loop-phone-preserved
loop-phone-preserved g c =
    let v = c.args.fleet.now in
    let p = c.loop-phone.phone in
    let many = many_owns v.setup (length v.worlds) v.journal in
    let low : p < length (owns_in v) = omega (arith, c.loop-phone-test.true, c.requires.phones, many) in
    let sound = c.world.ensures.sound c.requires.goes_on in
    more_written c.loop-phone.invariant (end_next v.setup (owns_in v) p low)
    (subst (λ t. WritesText {A = Unit {0}} t (Ok tt) (g.W.Edge.told c.loop-phone.out)
    (g.W.Edge.told c.write_end.new.out))
    (text_is v p c.world.result.now (c.world.ensures.own c.requires.goes_on) sound.0 sound.1) c.in_ok-write_end.ensures)

pub returns-in_err-write_end : goal.returns-in_err-write_end
returns-in_err-write_end g c =
    let v = c.args.fleet.now in
    let p = c.loop-phone.phone in
    let many = many_owns v.setup (length v.worlds) v.journal in
    let low : p < length (owns_in v) = omega (arith, c.loop-phone-test.true, c.requires.phones, many) in
    let sound = c.world.ensures.sound c.requires.goes_on in
    let out = err_from_is_err_and c.from_residual.result c.from_residual.ensures.1 in
    rw (out.1, out.2)
    (cut_written c.loop-phone.invariant (end_next v.setup (owns_in v) p low)
    (subst (λ t. WritesText {A = Unit {0}} t (Err c.in_err-write_end.field-0.0) (g.W.Edge.told c.loop-phone.out)
    (g.W.Edge.told c.write_end.new.out))
    (text_is v p c.world.result.now (c.world.ensures.own c.requires.goes_on) sound.0 sound.1) c.in_err-write_end.ensures))

pub returns : goal.returns
returns g c =
    let v = c.args.fleet.now in
    let many = many_owns v.setup (length v.worlds) v.journal in
    all_written c.loop-phone.invariant (ends_past v.setup (owns_in v) c.loop-phone.phone (omega (arith, c.loop-phone-test.false, c.requires.phones, many)))
