-- The report, event by event.
use Rattle.std.proofs.Common.{◌≡◌, refl, sym, ap, ◌∙◌, arith, ℕ, suc, ◌+◌, ◌≤◌, Result, Ok, Err, List, ◌∷◌, length, map, drop, drop_of_length-le}
use Rattle.lte_events.specs.{declared.events.Event.Event, declared.lines.Line.Line, declared.setups.Setup.Setup, Scenario.IsScenario}
use Rattle.lte_events.proofs.InRange.{in_range}
use Rattle.key_terms.specs.declared.proof.Proof.{Proof}
use Rattle.lte_machine.specs.BothRuns.{octet_run, octet_report, written_run, written_report}
use Rattle.lte_machine.specs.{Carried.run_value, Carried.report_value, Ciphers.annex_b, Machines.Kept, Machines.machine_in_octets, Opening.open_octets}
use Rattle.lte_machine.specs.Run.{RunState, Running, Stopped, turn, replay, EventReport, Reported, Coincided, report, reported, after, first_world, GoesOn}
use Rattle.lte_machine.specs.Step.{StepResult, Continues, Stops, next}
use Rattle.lte_machine.proofs.{AnnexB.annex_b_ciphers, WholeRun.tale_is_value, WholeRun.run_is_value}
use Rattle.lte_world.specs.{declared.faults.WorldFault.WorldFault, Whole.answer_of}
use Rattle.lte_world.specs.declared.faults.WorldFault.TheVariants as fault
use Rattle.store_laws.specs.Proofs.{proof_of}
use Rattle.report_text.specs.{Line.line_text, Coincidence.coincidence_text}
use Rattle.run_report.specs.declared.endings.Ending.TheVariants.{Done, Chance}
use Rattle.run_report.specs.Counted.{Tells}
use Rattle.run_report.specs.Events.{told_of, told_report, event_ends, CanShow}
use Rattle.run_report.specs.Report.{Report, told_from, end_of, report_of}
use Rattle.run_report.proofs.Partly.{followed, Follows}

-- the run in octets after one event more, and after a list of them; and what it tells of these
abbrev pub turned : RunState (List ℕ) ℕ Kept → Event → RunState (List ℕ) ℕ Kept
turned run e = turn (open_octets annex_b) (machine_in_octets annex_b) run e

abbrev pub replayed : RunState (List ℕ) ℕ Kept → List Event → RunState (List ℕ) ℕ Kept
replayed run events = replay (open_octets annex_b) (machine_in_octets annex_b) run events

abbrev pub reports : RunState (List ℕ) ℕ Kept → List Event → List (EventReport (List ℕ))
reports run events = report (open_octets annex_b) (machine_in_octets annex_b) run events

-- the report from this step on, of so many events in all
abbrev pub report_from : ℕ → ℕ → RunState (List ℕ) ℕ Kept → List Event → Report
report_from count step run events = told_from step (reports run events) (end_of count (replayed run events))

-- WHAT A CALLER GIVES

-- the run of the written machine in values, and what it tells, are those of the run in octets
pub in_octets : {A : Type 0} {setup : Setup} {events : List Event} (f : RunState (List ℕ) ℕ Kept → List (EventReport (List ℕ)) → A) → IsScenario setup events
    → f (run_value annex_b (written_run setup events)) (map report_value (written_report setup events)) ≡ f (octet_run setup events) (octet_report setup events)
in_octets {setup} {events} f scenario =
    let is = scenario.can_start in
    let are = in_range setup events scenario.can_happen in
    λ j. f (sym (run_is_value annex_b annex_b_ciphers setup is events are) j) (sym (tale_is_value annex_b annex_b_ciphers setup is events are) j)

pub report_is : {setup : Setup} {events : List Event}
    → IsScenario setup events
    → report_of setup events ≡ report_from (length events) 0 (Running (first_world setup)) events
unfolding report_of
report_is {events} scenario = in_octets (λ run told. told_from 0 told (end_of (length events) run)) scenario

-- ONE EVENT MORE

-- an event that is told with a line is one by which the run goes on
goes_by : (s : StepResult (List ℕ) ℕ Kept) → event_ends (reported s) ≡ Done → GoesOn (after s)
goes_by (Continues w line) e = tt
goes_by (Stops coincidence) e = cc

pub still_goes : (run : RunState (List ℕ) ℕ Kept) (e : Event) → event_ends (told_of run e) ≡ Done → GoesOn (turned run e)
still_goes (Running w) e is = goes_by (next (open_octets annex_b) (machine_in_octets annex_b) w e) is
still_goes (Stopped coincidence) e is = cc

one_more : (step : ℕ) (told : EventReport (List ℕ)) (rest : List (EventReport (List ℕ))) (end : List ℕ)
    → told_from step (told ∷ rest) end ≡ followed (told_report step told) (told_from (suc step) rest end)
one_more step (Reported line) rest end = refl
one_more step (Coincided coincidence) rest end = refl

pub report_more : (count i n : ℕ) (run run' : RunState (List ℕ) ℕ Kept) (events : List Event) (e : Event)
    → drop i events ≡ e ∷ drop (suc i) events
    → n ≡ i
    → run' ≡ turned run e
    → Follows (report_from count i run (drop i events)) (told_report n (told_of run e)) (report_from count (i + 1) run' (drop (i + 1) events))
report_more count i n run run' events e left number turns =
    let next : suc i ≡ i + 1 = omega arith in record {
      is = ap (report_from count i run) left
          ∙ one_more i (told_of run e) (reports (turned run e) (drop (suc i) events)) (end_of count (replayed (turned run e) (drop (suc i) events)))
          ∙ (λ j. followed (told_report (sym number j) (told_of run e)) (report_from count (next j) (sym turns j) (drop (next j) events)));
    }

pub report_ends : (i n : ℕ) (run : RunState (List ℕ) ℕ Kept) (events : List Event)
    → n ≡ i
    → i ≤ length events
    → length events ≤ i
    → report_from (length events) i run (drop i events) ≡ record { text = end_of n run; ends = Done }
report_ends i n run events number low past =
    let all : length events ≡ n = omega (arith, number, low, past) in
    ap (report_from (length events) i run) (drop_of_length-le events past) ∙ ap (λ k. record { text = end_of k run; ends = Done }) all

-- WHAT A CALLER IS ANSWERED

pub tells : (told : EventReport (List ℕ)) (answer : Result Line WorldFault)
    → answer ≡ answer_of told
    → ((proof : Proof) → answer ≡ Err (fault.Chance proof) → CanShow proof)
    → Tells told answer
tells told (Err fault.Memory) is shows = tt
tells (Reported told) (Ok line) is shows = cc
tells (Coincided coincidence) (Err (fault.Chance proof)) is shows = let one : proof ≡ proof_of coincidence = cc in (one, shows proof refl)
tells (Reported told) (Err (fault.Chance proof)) is shows = cc
tells (Coincided coincidence) (Ok line) is shows = cc

pub a_line : (told : EventReport (List ℕ)) (line : Line) (step : ℕ)
    → Tells told (Ok line)
    → told_report step told ≡ record { text = line_text line; ends = Done }
a_line (Reported told) line step is = ap (λ l. record { text = line_text l; ends = Done }) (sym is)
a_line (Coincided coincidence) line step is = absurd is

pub a_coincidence : (told : EventReport (List ℕ)) (proof : Proof) (step : ℕ)
    → Tells told (Err (fault.Chance proof))
    → told_report step told ≡ record { text = coincidence_text step proof; ends = Chance }
a_coincidence (Reported told) proof step is = absurd is
a_coincidence (Coincided coincidence) proof step is = ap (λ p. record { text = coincidence_text step p; ends = Chance }) (sym is.0)

pub can_show : (told : EventReport (List ℕ)) (proof : Proof) → Tells told (Err (fault.Chance proof)) → CanShow proof
can_show (Reported told) proof is = absurd is
can_show (Coincided coincidence) proof is = is.1

pub is_plain : (told : EventReport (List ℕ)) (line : Line) → Tells told (Ok line) → event_ends told ≡ Done
is_plain (Reported told) line is = refl
is_plain (Coincided coincidence) line is = absurd is
