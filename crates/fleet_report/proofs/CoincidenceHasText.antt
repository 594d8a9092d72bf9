-- A coincidence of a phone has a text.
use Rattle.std.proofs.Common.{◌≡◌, ◌≢◌, refl, sym, ap, subst, ◌∙◌, ℕ, List, length, Option, Some, None, Result, Ok, Err}
use Rattle.std.specs.{Prelude.IsTrue, Result.result_and}
use Rattle.edge_io.specs.Told.{Told}
use Rattle.lte_events.specs.{Ranges.IsEvent, Ranges.IsSetup, declared.events.Event.Event, declared.setups.Setup.Setup}
use Rattle.key_terms.specs.declared.proof.Proof.{Proof}
use Rattle.lte_machine.specs.{BothRuns.octet_run, Ciphers.annex_b, Machines.Kept, Machines.machine_in_octets, Opening.open_octets}
use Rattle.lte_machine.specs.Run.{RunState, Running, Stopped, EventReport, Reported, Coincided, event_report as event_of_run, GoesOn}
use Rattle.report_text.specs.Coincidence.{HasString}
use Rattle.run_report.specs.{declared.endings.Ending.Ending, Events.HasCounts, Report.Report, Written.WritesReport, Written.WritesText, declared.unwritten.Unwritten.Unwritten}
use Rattle.run_report.specs.declared.endings.Ending.TheVariants as ending
use Rattle.growth.specs.Growth.{WasRefused}
use Rattle.run_report.proofs.{Partly.one_piece, Partly.unreported, CoincidenceHasString.shown}
use Rattle.run_report.specs.declared.unwritten.Unwritten.TheVariants as unwritten
use Rattle.fleet_world.specs.{declared.lines.FleetLine.FleetLine, declared.faults.FleetFault.FleetFault, Meeting.Meeting, Phones.phone_told}
use Rattle.store_laws.specs.Proofs.{proof_of}
use Rattle.fleet_world.specs.declared.faults.FleetFault.TheVariants as fault
use Rattle.fleet_world.specs.Answers.{own_at, taken_by, crossing, unless_taken, answer}
use Rattle.fleet_world.specs.Fleets.{Fleeted, CanTake, IsOwn, owns_in, answer_of, unless_over}
use Rattle.fleet_world.proofs.{Standing.told_is, Together.octets_are}
use Rattle.fleet_report.specs.Events.{HasItsCounts, answer_report, event_report}
use Rattle.fleet_report.specs.Lines.{IsShown, output_text, answer_output}

-- a Chance is one of the phone's own run
coincidence_told : (t : Option ℕ) (told : EventReport (List ℕ)) (met : Option Meeting) (p q : ℕ) (proof : Proof)
    → unless_taken p t told met ≡ Err (fault.Chance q proof)
    → (c : _) × (told ≡ Coincided c) × (proof ≡ proof_of c)
coincidence_told (Some k) told met p q proof is = absurd cc
coincidence_told None (Coincided c) met p q proof is = (c, refl, cc)
coincidence_told None (Reported told) None p q proof is = absurd cc
coincidence_told None (Reported told) (Some m) p q proof is = absurd cc

goes : (run : RunState (List ℕ) ℕ Kept) → GoesOn run → (w : _) × (run ≡ Running w)
goes (Running w) on = (w, refl)
goes (Stopped coincidence) on = absurd on

-- and a derivation in it has a string S
coincidence_shown : (setup : Setup) (most : ℕ) (own : List Event) (e : Event) (coincidence : _)
    → IsSetup setup
    → IsOwn setup most own
    → IsEvent e
    → phone_told setup own e ≡ Coincided coincidence
    → HasCounts (proof_of coincidence)
    → HasString (proof_of coincidence)
coincidence_shown setup most own e coincidence is h good told counts =
    let octets = octets_are setup own is h.in_range in
    let on = goes (octet_run setup own) (subst GoesOn (sym octets) h.goes) in
    shown setup own on.0 e coincidence is h.in_range on.1 good
    (ap (λ r. event_of_run (open_octets annex_b) (machine_in_octets annex_b) r e) (sym on.1) ∙ told_is setup own e is h.in_range good ∙ told) counts

pub answers_are : (v : Fleeted) (p : ℕ) (e : Event) → v.over ≡ None → answer_of v p e ≡ answer v.setup (owns_in v) p e
answers_are v p e none = ap (λ o. unless_over o (answer v.setup (owns_in v) p e)) none

pub fault_shown : (v : Fleeted) (p : ℕ) (e : Event) (f : FleetFault)
    → v.over ≡ None
    → IsSetup v.setup
    → IsOwn v.setup (length v.journal) (own_at (owns_in v) p)
    → CanTake v p e
    → (◌≢◌ {A = Result FleetLine FleetFault} (Err f) (Err fault.Memory) → Err f ≡ answer_of v p e) → HasItsCounts f → IsShown f
fault_shown v p e fault.Memory none is h can answered counts = tt
fault_shown v p e (fault.Cross phone row other other_row) none is h can answered counts = tt
fault_shown v p e (fault.Chance q proof) none is h can answered counts =
    let told = coincidence_told (taken_by v.setup (owns_in v) p e) (phone_told v.setup (own_at (owns_in v) p) e)
    (crossing v.setup (owns_in v) p e) p q proof (sym (answered (λ same. cc) ∙ answers_are v p e none)) in
    subst HasString (sym told.2)
    (coincidence_shown v.setup (length v.journal) (own_at (owns_in v) p) e told.0 is h can.can.0 told.1 (subst HasCounts told.2 counts))

-- how a report ends of which a coincidence was written
abbrev pub ended : Result (Unit {0}) Unwritten → Result Ending Unwritten
ended written = result_and written (Ok ending.Chance)

-- the line for a coincidence is that of the answer
pub fault_reported : (v : Fleeted) (p : ℕ) (e : Event) (f : FleetFault) (step own : ℕ) (result : Result (Unit {0}) Unwritten) (before after : Told)
    → step ≡ length v.journal
    → own ≡ length (own_at (owns_in v) p)
    → (◌≢◌ {A = Result FleetLine FleetFault} (Err f) (Err fault.Memory) → Err f ≡ answer_of v p e)
    → (f ≢ fault.Memory → WritesText (output_text (answer_output step own (Err f))) result before after)
    → (f ≡ fault.Memory → (result ≡ Err unwritten.Memory) × (after ≡ before)) → (f ≡ fault.Memory → WasRefused) → IsTrue before.ready
    → WritesReport (event_report v p e) (ended result) before after
unfolding event_report
fault_reported v p e f step own result before after steps owns says text memory refused ready =
    subst (λ r. WritesReport r (ended result) before after) (λ j. answer_report (steps j) (owns j) (answer_of v p e)) (by f says text memory refused)
  where
    by : (f : FleetFault)
        → (◌≢◌ {A = Result FleetLine FleetFault} (Err f) (Err fault.Memory) → Err f ≡ answer_of v p e)
        → (f ≢ fault.Memory → WritesText (output_text (answer_output step own (Err f))) result before after)
        → (f ≡ fault.Memory → (result ≡ Err unwritten.Memory) × (after ≡ before)) → (f ≡ fault.Memory → WasRefused)
        → WritesReport (answer_report step own (answer_of v p e)) (ended result) before after
    by fault.Memory says text memory refused =
        let nothing = memory refl in
        let whole : Report = answer_report step own (answer_of v p e) in
        subst (λ r. WritesReport whole (ended r) before after) (sym nothing.0)
        (subst (λ t. WritesReport whole (Err unwritten.Memory) before t) (sym nothing.1)
        (unreported whole before (refused refl) ready))
    by (fault.Chance q proof) says text memory refused =
        subst (λ a. WritesReport (answer_report step own a) (ended result) before after) (says (λ same. cc))
        (one_piece result refl ready (text (λ same. cc)) refl)
    by (fault.Cross phone row other other_row) says text memory refused =
        subst (λ a. WritesReport (answer_report step own a) (ended result) before after) (says (λ same. cc))
        (one_piece result refl ready (text (λ same. cc)) refl)
