use Rattle.std.proofs.Common.{subst}
use Rattle.lte_world.specs.Whole.{run_of}
use Rattle.run_report.specs.Counted.{ComesOut}
use Rattle.run_report.proofs.{Counting.summary_ended, Counting.summary_coincidence, Partly.one_piece}
use Rattle.run_report.proofs.summaries.summarise.Goals as goal

pub returns-in-Ok-Ended : goal.returns-in-Ok-Ended
returns-in-Ok-Ended g c =
    let ended = subst (ComesOut c.args.world.now.setup c.args.events.now.items c.run_through.new.tally
    (run_of c.run_through.new.world))
    c.in-Ok-Ended.field-0-is c.in-Ok-Ended.ensures.comes_out in
    one_piece c.write_figures.result
    (summary_ended c.ladder.result.now.rows c.len-rows.result c.len-rows.ensures.len c.requires.is_scenario ended c.ladder.ensures)
    c.requires.out_ready c.write_figures.ensures c.and.ensures

pub returns-in-Ok-Chance : goal.returns-in-Ok-Chance
returns-in-Ok-Chance g c =
    let coincidence = subst (ComesOut c.args.world.now.setup c.args.events.now.items c.run_through.new.tally
    (run_of c.run_through.new.world))
    c.in-Ok-Chance.field-0-is c.in-Ok-Chance.ensures.comes_out in
    one_piece c.write_coincidence.result
    (summary_coincidence c.in-Ok-Chance.step c.in-Ok-Chance.proof c.requires.is_scenario coincidence.0)
    c.requires.out_ready c.write_coincidence.ensures c.and-in-Ok-Chance.ensures
