-- What is told of one event.
use Rattle.std.specs.Prelude.{ℕ, ◌<◌, ◌^◌, List}
use Rattle.hmac_kdf.specs.{declared.input.KdfInput.KdfInput, declared.input.KdfInput.TheVariants.Kenb}
use Rattle.key_terms.specs.declared.proof.Proof.{Proof}
use Rattle.key_terms.specs.declared.proof.Proof.TheVariants as proofs
use Rattle.lte_events.specs.declared.events.Event.{Event}
use Rattle.lte_machine.specs.{Calls.line_out, Ciphers.annex_b, Machines.Kept, Machines.machine_in_octets, Opening.open_octets}
use Rattle.lte_machine.specs.Run.{RunState, EventReport, Reported, Coincided, event_report}
use Rattle.report_text.specs.{Line.line_text, Coincidence.HasString, Coincidence.coincidence_text}
use Rattle.store_laws.specs.Proofs.{proof_of}
use Rattle.run_report.specs.{declared.endings.Ending.Ending, Report.Report}
use Rattle.run_report.specs.declared.endings.Ending.TheVariants.{Done, Chance}

-- in a run in octets
abbrev pub told_of : RunState (List ℕ) ℕ Kept → Event → EventReport (List ℕ)
told_of run e = event_report (open_octets annex_b) (machine_in_octets annex_b) run e

-- its text at this step, and how the report of it ends
abbrev pub event_text : ℕ → EventReport (List ℕ) → List ℕ
event_text step (Reported line) = line_text (line_out line)
event_text step (Coincided coincidence) = coincidence_text step (proof_of coincidence)

abbrev pub event_ends : EventReport (List ℕ) → Ending
event_ends (Reported line) = Done
event_ends (Coincided coincidence) = Chance

-- and both
abbrev pub told_report : ℕ → EventReport (List ℕ) → Report
told_report step told = record { text = event_text step told; ends = event_ends told }

-- a COUNT of 32 bits
abbrev pub HasCount : KdfInput → Type 0
HasCount (Kenb count) = count < 2 ^ 32
HasCount other = Unit {0}

abbrev pub HasCounts : Proof → Type 0
HasCounts (proofs.Rows row made) = HasCount made.input
HasCounts other = Unit {0}

-- a derivation in it has a string S
abbrev pub CanShow : Proof → Type 0
CanShow proof = HasCounts proof → HasString proof
