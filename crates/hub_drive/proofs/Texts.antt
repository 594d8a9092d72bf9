-- What the plan writes is the report.
use Rattle.std.proofs.Common.{◌≡◌, ℕ, suc, ◌+◌, List, [], ◌∷◌, ◌++◌, length, refl, ap, sym, subst, ◌∙◌, append-nil, arith}
use Rattle.edge_io.specs.declared.peers.Role.{Role}
use Rattle.lte_events.specs.{declared.events.Event.Event, declared.inputs.ActorIn.ActorIn, declared.replies.ActorOut.ActorOut, declared.setups.Setup.Setup, Scenario.IsScenario}
use Rattle.lte_machine.specs.{Calls.line_out, Ciphers.annex_b, Machines.Kept, Machines.machine_in_octets, Opening.open_octets}
use Rattle.lte_machine.specs.Run.{RunState, Running, EventReport, Reported, Coincided, report, replay, first_world}
use Rattle.report_text.specs.Line.{line_text}
use Rattle.role_wire.specs.declared.frames.RoleSetup.{RoleSetup}
use Rattle.run_report.specs.Events.{told_of}
use Rattle.run_report.specs.Report.{Report, told_from, end_of, report_of}
use Rattle.run_report.proofs.ReportByEvent.{report_from, report_is}
use Rattle.hub_drive.proofs.Composing.{writes-append}
use Rattle.hub_drive.specs.{Acts.Act, Acts.writes, Driven.Plan}
use Rattle.hub_drive.specs.Exchanges.{roles_of, starts, seeds_of, set_ups, replied}
use Rattle.hub_drive.specs.Plan.{event_plan, replies_at, turned, followed, events_plan, plan_of}

starts_write : (roles : List Role) → writes (starts roles) ≡ []
starts_write [] = refl
starts_write (role ∷ roles) = starts_write roles

set_ups_write : (peer : ℕ) (seeds : List RoleSetup) → writes (set_ups peer seeds) ≡ []
set_ups_write peer [] = refl
set_ups_write peer (seed ∷ seeds) = set_ups_write (suc peer) seeds

replied_write : (setup : Setup) (step : ℕ) (replies : List (ActorIn × ActorOut)) → writes (replied setup step replies) ≡ []
replied_write setup step [] = refl
replied_write setup step (r ∷ replies) = replied_write setup step replies

-- a plan that writes a report
pub record Reports (plan : Plan) (r : Report) : Type 0 where
  pub text : writes plan.acts ≡ r.text
  pub ends : plan.ends ≡ r.ends

one_event : (setup : Setup) (step : ℕ) (told : EventReport (List ℕ)) (replies : List (ActorIn × ActorOut)) (rest : Plan)
    (reports : List (EventReport (List ℕ))) (end : List ℕ)
    → Reports rest (told_from (suc step) reports end)
    → Reports (followed (event_plan setup step told replies) rest) (told_from step (told ∷ reports) end)
one_event setup step (Reported line) replies rest reports end more =
    let text : List ℕ = line_text (line_out line) in
    record {
      text = ap (λ (octets : List ℕ). text ++ octets)
          (writes-append (replied setup step replies) rest.acts
          ∙ ap (λ (octets : List ℕ). octets ++ writes rest.acts) (replied_write setup step replies)
          ∙ more.text);
      ends = more.ends;
    }
one_event setup step (Coincided coincidence) replies rest reports end more = record { text = append-nil _; ends = refl }

pub events_report : (setup : Setup) (events : List Event) (step count : ℕ) (run : RunState (List ℕ) ℕ Kept)
    → count ≡ step + length events
    → Reports (events_plan setup step run events) (report_from count step run events)
events_report setup [] step count run is =
    let same : step ≡ count = omega (arith, is) in
    record { text = append-nil (end_of step run) ∙ ap (λ n. end_of n run) same; ends = refl }
events_report setup (e ∷ events) step count run is =
    one_event setup step (told_of run e) (replies_at run e) (events_plan setup (suc step) (turned run e) events)
    (report (open_octets annex_b) (machine_in_octets annex_b) (turned run e) events)
    (end_of count (replay (open_octets annex_b) (machine_in_octets annex_b) (turned run e) events))
    (events_report setup events (suc step) count (turned run e) (omega (arith, is)))

pub plan_report : (setup : Setup) (events : List Event) → IsScenario setup events → Reports (plan_of setup events) (report_of setup events)
unfolding plan_of
plan_report setup events scenario =
    let P : Report → Type 0 = λ r. Reports (plan_of setup events) r in
    let first : List Act = starts (roles_of setup) ++ set_ups 0 (seeds_of setup) in
    let none : writes first ≡ [] =
    writes-append (starts (roles_of setup)) (set_ups 0 (seeds_of setup))
    ∙ ap (λ (octets : List ℕ). octets ++ writes (set_ups 0 (seeds_of setup))) (starts_write (roles_of setup))
    ∙ set_ups_write 0 (seeds_of setup) in
    let rest : Plan = events_plan setup 0 (Running (first_world setup)) events in
    let more : Reports rest (report_from (length events) 0 (Running (first_world setup)) events) =
    events_report setup events 0 (length events) (Running (first_world setup)) (omega arith) in
    subst P (sym (report_is scenario)) (record {
      text = writes-append first rest.acts ∙ ap (λ (octets : List ℕ). octets ++ writes rest.acts) none ∙ more.text;
      ends = more.ends;
    })
