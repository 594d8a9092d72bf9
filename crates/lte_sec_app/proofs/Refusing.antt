-- What is written for a text that was not read as a scenario, and that one that was read is not refused.
use Rattle.std.proofs.Common.{◌≡◌, ◌≢◌, ◌∙◌, ◌⊎◌, inl, inr, Result, Ok, Err, refl, sym, ap, subst}
use Rattle.std.specs.Prelude.{IfErr}
use Rattle.edge_io.specs.Told.{Told}
use Rattle.edge_io.proofs.Known.{none_of}
use Rattle.scenario_file.specs.declared.faults.ScenarioFault.{ScenarioFault}
use Rattle.scenario_file.specs.declared.faults.ScenarioFault.TheVariants as fault
use Rattle.lte_sec_app.specs.{declared.status.Status.Status, Ladder.status_of as ladder_status}
use Rattle.lte_sec_app.specs.declared.status.Status.TheVariants.{Memory, Refused}
use Rattle.ladder_text.specs.declared.ending.Ending.{Ending as LadderEnding}
use Rattle.ladder_text.specs.declared.ending.Ending.TheVariants as ladder
use Rattle.run_report.specs.declared.endings.Ending.{Ending}
use Rattle.run_report.specs.declared.endings.Ending.TheVariants as ending
use Rattle.lte_sec_app.specs.Run.{Output, UsesSink, WritesAt, WritesOutput}
use Rattle.lte_sec_app.specs.Scenario.{RefusedBy, IsRefused, report_status, refusal_output}

pub is_memory : (why : ScenarioFault) → (why ≡ fault.Memory) ⊎ (why ≢ fault.Memory)
is_memory fault.Memory = inl refl
is_memory fault.NotToml = inr (λ is. cc)
is_memory (fault.Missing step field) = inr (λ is. cc)
is_memory (fault.Wrong step field) = inr (λ is. cc)
is_memory (fault.Unknown step) = inr (λ is. cc)
is_memory fault.TooMany = inr (λ is. cc)

-- A TEXT THAT WAS NOT READ

module _ {B : Type 0} (output_of : Result B ScenarioFault → Output)
    (same : (why : ScenarioFault) → output_of (Err why) ≡ refusal_output why) (reading : Result B ScenarioFault)
    (status : Status) (out out' : Told) where
  by_fault : (why : ScenarioFault)
      → (why ≢ fault.Memory → reading ≡ Err why)
      → RefusedBy why status out out'
      → (why ≡ fault.Memory) ⊎ (why ≢ fault.Memory)
      → WritesAt (output_of reading) status out out'
  by_fault why read refused (inl memory) =
      let at = refused.0 memory in
      let Nothing : Told → Type 0 = λ o. WritesAt (output_of reading) Memory out o in
      let Answered : Status → Type 0 = λ s. WritesAt (output_of reading) s out out' in
      subst Answered (sym at.0) (subst Nothing (sym at.1) (none_of out.written (output_of reading).text))
  by_fault why read refused (inr other) =
      let At : Output → Type 0 = λ o. WritesAt o status out out' in
      subst At (sym (ap output_of (read other) ∙ same why)) (refused.1 other).1

  by_reading : {A : Type 0} (read : Result A ScenarioFault)
      → IfErr read (λ why. why ≢ fault.Memory → reading ≡ Err why)
      → IsRefused read status out out'
      → WritesAt (output_of reading) status out out'
  by_reading (Ok scenario) reads refused = absurd refused
  by_reading (Err why) reads refused = by_fault why reads refused (is_memory why)

pub refusal_writes : {A B S T : Type 0} (told : S → Told) (output_of : Result B ScenarioFault → Output)
    → ((why : ScenarioFault) → output_of (Err why) ≡ refusal_output why)
    → (reading : Result B ScenarioFault) (read : Result A ScenarioFault) (status : Status) {out out' : S}
    → IfErr read (λ why. why ≢ fault.Memory → reading ≡ Err why)
    → IsRefused read status (told out) (told out')
    → (◌≡◌ {A = Result T Status} (Err status) (Err Memory) → out' ≡ out)
    → UsesSink status (told out) (told out')
    → WritesOutput told (output_of reading) status out out'
refusal_writes told output_of same reading read status {out} {out'} reads refused memory_out uses = record {
  text = by_reading output_of same reading status (told out) (told out') read reads refused;
  no_refusal = λ memory ends. memory_out (ap Err memory);
  sink = uses;
}

-- A SCENARIO THAT WAS READ

-- the output of a report is no refusal
never_refused : (ends : Ending) → report_status ends ≢ Refused
never_refused ending.Done = λ is. cc
never_refused ending.Chance = λ is. cc

pub read_never_refused : {B : Type 0} (ends_of : Result B ScenarioFault → Status) (reading : Result B ScenarioFault)
    (scenario : B) (ended : Ending)
    → reading ≡ Ok scenario
    → ends_of (Ok scenario) ≡ report_status ended
    → ends_of reading ≢ Refused
read_never_refused ends_of reading scenario ended reads ends is =
    never_refused ended (sym ends ∙ ap ends_of (sym reads) ∙ is)

-- A LADDER TEXT

-- the ending of a ladder text that was refused
pub ladder_refused : (ended : LadderEnding) → ladder_status ended ≡ Refused → ended ≡ ladder.Refused
ladder_refused ladder.Done is = absurd cc
ladder_refused ladder.Memory is = absurd cc
ladder_refused ladder.Refused is = refl
ladder_refused ladder.WriteFault is = absurd cc
ladder_refused ladder.Coincidence is = absurd cc
