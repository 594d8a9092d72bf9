-- The lines of a run, counted one after the other.
use Rattle.std.proofs.Common.{◌≡◌, refl, sym, ap, subst, ◌∙◌, arith, ℕ, suc, ◌+◌, ◌≤◌, Ok, Err, List, [], ◌∷◌, ◌++◌, length, drop, length-append, drop_of_length-le}
use Rattle.lte_events.specs.{declared.events.Event.Event, declared.lines.Line.Line, declared.setups.Setup.Setup, Scenario.IsScenario}
use Rattle.key_terms.specs.{declared.proof.Proof.Proof, declared.row.LadderRow.LadderRow}
use Rattle.lte_machine.specs.{BothRuns.octet_run, BothRuns.octet_report, Machines.Kept}
use Rattle.lte_machine.specs.Run.{RunState, Running, Stopped, EventReport, Reported, Coincided, first_world, GoesOn}
use Rattle.lte_world.specs.Whole.{InRun}
use Rattle.lte_world.specs.declared.faults.WorldFault.TheVariants as fault
use Rattle.report_text.specs.Coincidence.{coincidence_text}
use Rattle.report_text.specs.Summary.{Tallied, tally_of, figures_text}
use Rattle.store_laws.specs.Rows.{world_rows}
use Rattle.run_report.specs.declared.endings.Ending.TheVariants.{Done, Chance}
use Rattle.run_report.specs.{Events.told_of, Events.CanShow, Counted.Tells, Counted.Ended}
use Rattle.run_report.specs.Summary.{Coincides, outcome_from, rows_in, summary_with, summary_of}
use Rattle.run_report.proofs.ReportByEvent.{turned, replayed, reports, in_octets}

-- the first i events are counted, and the run is in this state
pub record CountedTo (setup : Setup) (events : List Event) (i : ℕ) (run : RunState (List ℕ) ℕ Kept) (tally : Tallied) : Type 0 where
  pub lines : List Line
  pub tallied : tally ≡ tally_of lines
  pub number : length lines ≡ i
  pub whole : outcome_from [] (octet_report setup events) ≡ outcome_from lines (reports run (drop i events))
  pub ends : octet_run setup events ≡ replayed run (drop i events)

pub none_counted : {setup : Setup} {run : RunState (List ℕ) ℕ Kept} {tally : Tallied} (events : List Event)
    → run ≡ Running (first_world setup)
    → tally ≡ tally_of []
    → CountedTo setup events 0 run tally
none_counted {setup} {tally} events begins none = subst (λ r. CountedTo setup events 0 r tally) (sym begins)
    (record { lines = []; tallied = none; number = refl; whole = refl; ends = refl })

-- one event more
line_more : (told : EventReport (List ℕ)) (line : Line) (lines : List Line) (rest : List (EventReport (List ℕ)))
    → Tells told (Ok line)
    → outcome_from lines (told ∷ rest) ≡ outcome_from (lines ++ line ∷ []) rest
line_more (Reported told) line lines rest is = ap (λ l. outcome_from (lines ++ l ∷ []) rest) (sym is)
line_more (Coincided coincidence) line lines rest is = absurd is

pub next_counted : {setup : Setup} {events : List Event} {i : ℕ} {run : RunState (List ℕ) ℕ Kept} {before : Tallied}
    (run' : RunState (List ℕ) ℕ Kept) (after : Tallied) (e : Event) (line : Line)
    → CountedTo setup events i run before
    → drop i events ≡ e ∷ drop (suc i) events
    → Tells (told_of run e) (Ok line)
    → ((lines : List Line) → before ≡ tally_of lines → after ≡ tally_of (lines ++ line ∷ []))
    → run' ≡ turned run e
    → CountedTo setup events (i + 1) run' after
next_counted {setup} {events} {i} {run} run' after e line so_far left tells counts turns =
    let next : suc i ≡ i + 1 = omega arith in
    subst (λ k. CountedTo setup events k run' after) next (subst (λ r. CountedTo setup events (suc i) r after) (sym turns) (record {
      lines = so_far.lines ++ line ∷ [];
      tallied = counts so_far.lines so_far.tallied;
      number = length-append so_far.lines (line ∷ []) ∙ omega (arith, so_far.number);
      whole =
          so_far.whole
          ∙ ap (λ es. outcome_from so_far.lines (reports run es)) left
          ∙ line_more (told_of run e) line so_far.lines (reports (turned run e) (drop (suc i) events)) tells;
      ends = so_far.ends ∙ ap (replayed run) left;
    }))

-- a coincidence
coincidence_is : (told : EventReport (List ℕ)) (proof : Proof) (lines : List Line) (rest : List (EventReport (List ℕ)))
    → Tells told (Err (fault.Chance proof))
    → (outcome_from lines (told ∷ rest) ≡ Coincides (length lines) proof) × CanShow proof
coincidence_is (Reported line) proof lines rest is = absurd is
coincidence_is (Coincided coincidence) proof lines rest is = (ap (Coincides (length lines)) (sym is.0), is.1)

pub coincides_at : {setup : Setup} {events : List Event} {i : ℕ} {run : RunState (List ℕ) ℕ Kept} {tally : Tallied}
    (step : ℕ) (e : Event) (proof : Proof)
    → CountedTo setup events i run tally
    → drop i events ≡ e ∷ drop (suc i) events
    → step ≡ i
    → Tells (told_of run e) (Err (fault.Chance proof))
    → (outcome_from [] (octet_report setup events) ≡ Coincides step proof) × CanShow proof
coincides_at {events} {i} {run} step e proof so_far left number tells =
    let last = coincidence_is (told_of run e) proof so_far.lines (reports (turned run e) (drop (suc i) events)) tells in
    (so_far.whole ∙ ap (λ es. outcome_from so_far.lines (reports run es)) left ∙ last.0 ∙ ap (λ n. Coincides n proof) (so_far.number ∙ sym number), last.1)

-- all events are counted
pub all_counted : {setup : Setup} {events : List Event} {i : ℕ} {run : RunState (List ℕ) ℕ Kept} {tally : Tallied}
    → CountedTo setup events i run tally
    → GoesOn run
    → length events ≤ i
    → Ended setup events tally run
all_counted {events} {i} {run} so_far goes past =
    let none : drop i events ≡ [] = drop_of_length-le events past in
    record {
      lines = so_far.lines;
      all = so_far.whole ∙ ap (λ es. outcome_from so_far.lines (reports run es)) none;
      tallied = so_far.tallied;
      state = sym (so_far.ends ∙ ap (replayed run) none);
      goes = goes;
    }

-- THE SUMMARY

summary_is : {setup : Setup} {events : List Event}
    → IsScenario setup events
    → summary_of setup events
    ≡ summary_with (rows_in (octet_run setup events)) (outcome_from [] (octet_report setup events))
unfolding summary_of
summary_is scenario = in_octets (λ run told. summary_with (rows_in run) (outcome_from [] told)) scenario

rows_of : (run : RunState (List ℕ) ℕ Kept) (rows : List LadderRow) → GoesOn run → InRun (λ w. rows ≡ world_rows w) run → rows_in run ≡ length rows
rows_of (Running w) rows goes are = ap length (sym are)
rows_of (Stopped coincidence) rows goes are = absurd goes

pub summary_ended : {setup : Setup} {events : List Event} {tally : Tallied} {run : RunState (List ℕ) ℕ Kept}
    (rows : List LadderRow) (n : ℕ)
    → n ≡ length rows
    → IsScenario setup events
    → Ended setup events tally run
    → InRun (λ w. rows ≡ world_rows w) run
    → summary_of setup events ≡ record { text = figures_text tally n; ends = Done }
summary_ended {setup} {events} {tally} {run} rows n many scenario e are =
    summary_is scenario ∙ ap (summary_with (rows_in (octet_run setup events))) e.all
    ∙ (λ j. record { text = figures_text (sym e.tallied j) ((ap rows_in (sym e.state) ∙ rows_of run rows e.goes are ∙ sym many) j); ends = Done })

pub summary_coincidence : {setup : Setup} {events : List Event} (step : ℕ) (proof : Proof)
    → IsScenario setup events
    → outcome_from [] (octet_report setup events) ≡ Coincides step proof
    → summary_of setup events ≡ record { text = coincidence_text step proof; ends = Chance }
summary_coincidence {setup} {events} step proof scenario e = summary_is scenario ∙ ap (summary_with (rows_in (octet_run setup events))) e
