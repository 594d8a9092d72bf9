use Rattle.std.proofs.{Common.refl, lemmas.Result.IfOk-at_ok}
use Rattle.core_relocation.proofs.Promised.{two_headline}
use Rattle.lte_events.proofs.InRange.{in_range}
use Rattle.scenario_file.specs.Reading.{two_reading_of}
use Rattle.lte_sec_app.specs.Two.{output_of, HasTwo}
use Rattle.lte_sec_app.proofs.{Refusing.refusal_writes, Running.where_run}
use Rattle.lte_sec_app.proofs.two.report_two.Goals as goal

pub returns-in-Ok-clause-holds : goal.returns-in-Ok-clause-holds
returns-in-Ok-clause-holds g c =
    let is = c.in-Ok.ensures.read.0 in
    let read = c.read_two.ensures in
    let setup = c.in-Ok.scenario.setup in
    let events = c.in-Ok.scenario.events.items in
    let core_of = c.in-Ok.scenario.core_of in
    let scenario = IfOk-at_ok _ is read.is_scenario in
    where_run c.status_of.result (HasTwo c.args.octets.now)
    (record {
      setup = setup;
      core_of = core_of;
      events = events;
      reads = IfOk-at_ok _ is read.scenario;
      holds = two_headline setup core_of events scenario.can_start (in_range setup events scenario.can_happen);
    })

pub returns-in-Err-clause-writes : goal.returns-in-Err-clause-writes
returns-in-Err-clause-writes g c =
    let why = c.in-Err.ensures in
    refusal_writes g.W.Edge.told output_of (λ why. refl) (two_reading_of c.args.octets.now) c.read_two.result c.in-Err.status
    c.read_two.ensures.refused why.refused why.memory_out why.sink
