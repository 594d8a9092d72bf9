use Rattle.std.proofs.{Common.refl, lemmas.Result.IfOk-at_ok}
use Rattle.scenario_file.specs.Reading.{reading_of}
use Rattle.lte_sec_app.specs.Scenario.{output_of, HasHeadline}
use Rattle.lte_sec_app.proofs.{Refusing.refusal_writes, Reports.has_headline, Running.where_run}
use Rattle.lte_sec_app.proofs.scenario.report_run.Goals as goal

pub returns-in-Ok-clause-headline : goal.returns-in-Ok-clause-headline
returns-in-Ok-clause-headline g c =
    let is = c.in-Ok.ensures.read.0 in
    let read = c.read.ensures in
    where_run c.status_of.result (HasHeadline c.args.octets.now)
    (has_headline c.args.octets.now c.in-Ok.scenario.setup c.in-Ok.scenario.events.items (IfOk-at_ok _ is read.scenario) (IfOk-at_ok _ is read.is_scenario))

pub returns-in-Err-clause-writes : goal.returns-in-Err-clause-writes
returns-in-Err-clause-writes g c =
    let why = c.in-Err.ensures in
    refusal_writes g.W.Edge.told output_of (λ why. refl) (reading_of c.args.octets.now) c.read.result c.in-Err.status
    c.read.ensures.refused why.refused why.memory_out why.sink
