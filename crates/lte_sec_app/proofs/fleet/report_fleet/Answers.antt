use Rattle.std.proofs.{Common.refl, lemmas.Result.IfOk-at_ok}
use Rattle.fleet_report.proofs.{Holding.holds, Looping.all_in_range}
use Rattle.scenario_file.specs.Reading.{fleet_reading_of}
use Rattle.lte_sec_app.specs.Fleet.{output_of, HasFleet}
use Rattle.lte_sec_app.proofs.{Refusing.refusal_writes, Running.where_run}
use Rattle.lte_sec_app.proofs.fleet.report_fleet.Goals as goal

pub returns-in-Ok-clause-holds : goal.returns-in-Ok-clause-holds
returns-in-Ok-clause-holds g c =
    let is = c.in-Ok.ensures.read.0 in
    let read = c.read_fleet.ensures in
    let setup = c.in-Ok.scenario.setup in
    let phones = c.in-Ok.scenario.phones in
    let scenario = IfOk-at_ok _ is read.is_scenario in
    let events = c.in-Ok.scenario.events.items in
    where_run c.status_of.result (HasFleet c.args.octets.now)
    (record {
      setup = setup;
      phones = phones;
      events = events;
      reads = IfOk-at_ok _ is read.scenario;
      holds = holds setup phones events scenario.can_start
          (all_in_range phones events (IfOk-at_ok _ is read.phones_stand) (λ k d low. (scenario.can_happen k d low).0));
    })

pub returns-in-Err-clause-writes : goal.returns-in-Err-clause-writes
returns-in-Err-clause-writes g c =
    let why = c.in-Err.ensures in
    refusal_writes g.W.Edge.told output_of (λ why. refl) (fleet_reading_of c.args.octets.now) c.read_fleet.result c.in-Err.status
    c.read_fleet.ensures.refused why.refused why.memory_out why.sink
