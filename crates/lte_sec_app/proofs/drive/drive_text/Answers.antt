use Rattle.std.proofs.{lemmas.Result.IfOk-at_ok, Common.refl}
use Rattle.run_report.specs.Report.{report_of}
use Rattle.scenario_file.specs.Reading.{reading_of}
use Rattle.lte_sec_app.specs.Scenario.{output_of, HasHeadline}
use Rattle.lte_sec_app.proofs.{Driving.refused_at, Driving.refused_goes, Refusing.read_never_refused, Reports.has_headline, Running.where_run}
use Rattle.lte_sec_app.proofs.drive.drive_text.Goals as goal

pub returns-in-Ok-clause-headline : goal.returns-in-Ok-clause-headline
returns-in-Ok-clause-headline g c =
    let is = c.in-Ok.ensures.read.0 in
    let read = c.read.ensures in
    where_run c.drive_scenario.result (HasHeadline c.args.octets.now)
    (has_headline c.args.octets.now c.in-Ok.scenario.setup c.in-Ok.scenario.events.items (IfOk-at_ok _ is read.scenario) (IfOk-at_ok _ is read.is_scenario))

pub returns-in-Ok-clause-no_refusal : goal.returns-in-Ok-clause-no_refusal
returns-in-Ok-clause-no_refusal g c memory refused =
    let s = c.in-Ok.scenario in
    absurd (read_never_refused (λ r. (output_of r).ends) (reading_of c.args.octets.now) _
    (report_of s.setup s.events.items).ends
    (IfOk-at_ok _ c.in-Ok.ensures.read.0 c.read.ensures.scenario) refl refused)

pub returns-in-Err-clause-at : goal.returns-in-Err-clause-at
returns-in-Err-clause-at g c =
    refused_at (reading_of c.args.octets.now) c.in-Err.status _ _ _ c.read.result c.read.ensures.refused c.in-Err.ensures.refused

pub returns-in-Err-clause-complete : goal.returns-in-Err-clause-complete
returns-in-Err-clause-complete g c =
    refused_goes (reading_of c.args.octets.now) c.in-Err.status _ _ _ _ _ c.read.result c.read.ensures.refused c.in-Err.ensures.refused
