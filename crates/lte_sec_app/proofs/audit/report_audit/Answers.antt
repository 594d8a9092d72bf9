use Rattle.std.proofs.Common.{refl, subst, sym}
use Rattle.std.proofs.lemmas.Result.{IfOk-at_ok}
use Rattle.scenario_file.specs.Reading.{reading_of}
use Rattle.lte_sec_app.specs.{Audit.output_of, Audit.HasAudit, Run.WhereRun}
use Rattle.lte_sec_app.proofs.{Audited.audited, Refusing.refusal_writes, Reports.headline_of}
use Rattle.lte_sec_app.proofs.audit.report_audit.Goals as goal

pub returns-in-Ok-clause-holds : goal.returns-in-Ok-clause-holds
returns-in-Ok-clause-holds g c =
    let is = c.in-Ok.ensures.read.0 in
    let read = c.read.ensures in
    let setup = c.in-Ok.scenario.setup in
    let events = c.in-Ok.scenario.events.items in
    subst (WhereRun (HasAudit c.args.octets.now)) (sym c.status_of.ensures.value)
    (audited c.args.octets.now setup events (IfOk-at_ok _ is read.scenario)
    (headline_of setup events (IfOk-at_ok _ is read.is_scenario))
    c.write_audit.ensures.alone c.write_audit.result
    (λ ok. (c.write_audit.ensures.exact ok, c.write_audit.ensures.of_run ok))
    c.write_audit.ensures.report.ends)

pub returns-in-Err-clause-writes : goal.returns-in-Err-clause-writes
returns-in-Err-clause-writes g c =
    let why = c.in-Err.ensures in
    refusal_writes g.W.Edge.told output_of (λ why. refl) (reading_of c.args.octets.now) c.read.result c.in-Err.status
    c.read.ensures.refused why.refused why.memory_out why.sink
