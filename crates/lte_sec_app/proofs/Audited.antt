-- What holds of an audited scenario, at each status.
use Rattle.std.proofs.Common.{◌≡◌, ◌∙◌, ℕ, List, Result, Ok, Err, refl}
use Rattle.std.specs.Prelude.{IfOk}
use Rattle.audit_report.specs.{Alone.EachAlone, AuditReport.audit_report_of, Audited.AuditIsExact, OfRun.AuditIsOfRun}
use Rattle.lte_events.specs.{declared.events.Event.Event, declared.setups.Setup.Setup}
use Rattle.lte_properties.specs.Headline.{Headline}
use Rattle.run_report.specs.{declared.endings.Ending.Ending, declared.unwritten.Unwritten.Unwritten}
use Rattle.run_report.specs.declared.endings.Ending.TheVariants as ending
use Rattle.run_report.specs.declared.unwritten.Unwritten.TheVariants as unwritten
use Rattle.scenario_file.specs.Reading.{reading_of}
use Rattle.lte_sec_app.specs.{Audit.HasAudit, Run.WhereRun, Scenario.status_of}

module _ (octets : List ℕ) (setup : Setup) (events : List Event) (reads : reading_of octets ≡ Ok (setup, events))
    (heads : Headline setup events) (alone : EachAlone setup events) where
  -- what is so of the audit that was written
  abbrev pub IsRight : Type 0
  IsRight = AuditIsExact setup events × AuditIsOfRun setup events

  has_audit : ((audit_report_of setup events).ends ≡ ending.Done → IsRight) → HasAudit octets
  has_audit right = record {
    setup = setup;
    events = events;
    reads = reads;
    headline = heads;
    exact = λ none. (right none).0;
    of_run = λ none. (right none).1;
    alone = alone;
  }

  pub audited : (r : Result Ending Unwritten) → (r ≡ Ok ending.Done → IsRight) → IfOk r (λ ends. ends ≡ (audit_report_of setup events).ends)
      → WhereRun (HasAudit octets) (status_of r)
  audited (Ok ending.Done) right is = has_audit (λ none. right refl)
  audited (Ok ending.Chance) right is = has_audit (λ none. let clash : ending.Chance ≡ ending.Done = is ∙ none in absurd cc)
  audited (Err unwritten.Memory) right is = tt
  audited (Err unwritten.WriteFault) right is = tt
