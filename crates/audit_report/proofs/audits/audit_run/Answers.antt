use Rattle.std.proofs.Common.{subst}
use Rattle.lte_machine.specs.BothRuns.{octet_run}
use Rattle.lte_world.specs.Whole.{run_of}
use Rattle.run_report.specs.Counted.{ComesOut}
use Rattle.run_report.proofs.Partly.{one_piece, never_done}
use Rattle.audit_report.proofs.{OfRun.audit_of_run, Together.exact_in, Reported.audit_ended, Reported.audit_coincidence}
use Rattle.audit_report.proofs.audits.audit_run.Goals as goal

pub returns-in-Ok-Ended-clause-report : goal.returns-in-Ok-Ended-clause-report
returns-in-Ok-Ended-clause-report g c =
    let ended = subst (ComesOut c.args.world.now.setup c.args.events.now.items c.run_through.new.tally
    (run_of c.run_through.new.world))
    c.in-Ok-Ended.field-0-is c.in-Ok-Ended.ensures.comes_out in
    one_piece c.write_ladder.result (audit_ended c.ladder.result.now.rows c.requires.is_scenario ended c.ladder.ensures)
    c.requires.out_ready c.write_ladder.ensures.text c.and.ensures

pub returns-in-Ok-Chance-clause-report : goal.returns-in-Ok-Chance-clause-report
returns-in-Ok-Chance-clause-report g c =
    let coincidence = subst (ComesOut c.args.world.now.setup c.args.events.now.items c.run_through.new.tally
    (run_of c.run_through.new.world))
    c.in-Ok-Chance.field-0-is c.in-Ok-Chance.ensures.comes_out in
    one_piece c.write_coincidence.result
    (audit_coincidence c.in-Ok-Chance.step c.in-Ok-Chance.proof c.requires.is_scenario coincidence.0)
    c.requires.out_ready c.write_coincidence.ensures c.and-in-Ok-Chance.ensures

pub returns-in-Ok-Ended-clause-exact : goal.returns-in-Ok-Ended-clause-exact
returns-in-Ok-Ended-clause-exact g c = λ _.
    let run = run_of c.run_through.new.world in
    let ended = subst (ComesOut c.args.world.now.setup c.args.events.now.items c.run_through.new.tally run)
    c.in-Ok-Ended.field-0-is c.in-Ok-Ended.ensures.comes_out in
    exact_in c.ladder.result.now.rows run (octet_run c.args.world.now.setup c.args.events.now.items) ended.state c.ladder.ensures
    c.write_ladder.ensures.exact

pub returns-in-Ok-Chance-clause-exact : goal.returns-in-Ok-Chance-clause-exact
returns-in-Ok-Chance-clause-exact g c done = absurd (never_done c.write_coincidence.result c.and-in-Ok-Chance.ensures done)

pub returns-in-Ok-Ended-clause-of_run : goal.returns-in-Ok-Ended-clause-of_run
returns-in-Ok-Ended-clause-of_run g c = λ _.
    let setup = c.args.world.now.setup in
    let run = run_of c.run_through.new.world in
    let ended = subst (ComesOut setup c.args.events.now.items c.run_through.new.tally run) c.in-Ok-Ended.field-0-is c.in-Ok-Ended.ensures.comes_out in
    audit_of_run setup c.args.events.now.items run c.ladder.result.now.rows c.requires.is_scenario ended.state c.ladder.ensures
    c.write_ladder.ensures.ladder

pub returns-in-Ok-Chance-clause-of_run : goal.returns-in-Ok-Chance-clause-of_run
returns-in-Ok-Chance-clause-of_run g c done = absurd (never_done c.write_coincidence.result c.and-in-Ok-Chance.ensures done)
