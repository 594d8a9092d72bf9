-- What a fleet's report says of each phone is the report of a system of that phone's own events; and what holds of all phones.
use Rattle.std.proofs.Common.{◌≡◌, ◌≢◌, refl, sym, ap, subst, ◌∙◌, ℕ, zero, suc, ◌+◌, ◌<◌, ◌==◌, Bool, true, false, List, [], ◌∷◌, ◌++◌, length, map, set, Option, Some, None, Result, Ok, Err, append_assoc, append-nil, arith}
use Rattle.std.specs.{Prelude.IsOk, List.flat_map, List.AllByRecursion as AllOf}
use Rattle.std.proofs.lemmas.Bool.{false≢true, eqb-true, eq-eqb}
use Rattle.std.proofs.lemmas.List.{length-replicate}
use Rattle.lte_events.specs.{Ranges.IsEvent, Ranges.IsSetup, declared.events.Event.Event, declared.lines.Line.Line, declared.setups.Setup.Setup}
use Rattle.key_model.specs.{Term.Term, Value.value_of}
use Rattle.key_terms.specs.declared.row.LadderRow.{LadderRow}
use Rattle.lte_machine.specs.BothRuns.{annex_b_terms, written_run, written_report}
use Rattle.lte_machine.specs.{Calls.line_out, Ciphers.annex_b, Machines.Kept, Machines.written_machine, Opening.open_octets, Wire.Outgoing, World.World}
use Rattle.lte_machine.specs.Carried.{map_line, run_value, report_value}
use Rattle.lte_machine.specs.Run.{RunState, Running, Stopped, turn, after, replay, EventReport, Reported, Coincided, reported, event_report, report, first_world}
use Rattle.lte_machine.specs.Step.{StepResult, Continues, Stops, next}
use Rattle.lte_machine.proofs.StillRun.{over_stays}
use Rattle.lte_properties.proofs.HeadlineHolds.{headline}
use Rattle.report_text.specs.{End.end_text, Ladder.rows_from, Ladder.row_text, Line.line_text}
use Rattle.run_report.specs.declared.endings.Ending.TheVariants.{Done}
use Rattle.run_report.specs.Report.{told_from, end_of, report_of}
use Rattle.store_laws.specs.Rows.{world_rows}
use Rattle.fleet_world.specs.{declared.faults.FleetFault.FleetFault, declared.lines.FleetLine.FleetLine, Apart.IsEventOf, Apart.AllAnswered, Phones.phone_run}
use Rattle.fleet_world.specs.declared.lines.FleetLine.TheVariants as line
use Rattle.fleet_world.specs.Answers.{answer, own, own_at, taken_by, owned_if, owns_after, owns_from, owns_of, no_events}
use Rattle.fleet_world.specs.Isolation.{answers, line_if, lines_of, lines_in, own_lines}
use Rattle.fleet_world.proofs.{Isolating.lines_are_own, Reading.phones_apart, Together.no_use_twice, Together.phones_separate}
use Rattle.fleet_world.proofs.Separating.{GoesOn, Apart, length_after}
use Rattle.fleet_report.specs.Lines.{Output, ByPhone, ByFleet, answer_output, row_outputs, end_outputs}
use Rattle.fleet_report.specs.Promises.{text_if, phone_texts, Holds}
use Rattle.fleet_report.specs.Report.{ends_from, goes_on, outputs_from, fleet_report_of}

-- A REPORT WITHOUT A COINCIDENCE

abbrev IsLine : {K : Type 0} → EventReport K → Type 0
IsLine (Reported told) = Unit {0}
IsLine (Coincided coincidence) = ⊥

abbrev TheRun : Type 0
TheRun = RunState Term ℕ (Outgoing Term ℕ)

abbrev run_on : TheRun → List Event → TheRun
run_on r events = replay (open_octets annex_b_terms) (written_machine annex_b) r events

abbrev reports_on : TheRun → List Event → List (EventReport Term)
reports_on r events = report (open_octets annex_b_terms) (written_machine annex_b) r events

-- a run that goes on told lines alone
first_line : (r : TheRun) (e : Event) (es : List Event) (u : World Term ℕ (Outgoing Term ℕ))
    → run_on (turn (open_octets annex_b_terms) (written_machine annex_b) r e) es ≡ Running u
    → IsLine (event_report (open_octets annex_b_terms) (written_machine annex_b) r e)
first_line (Stopped coincidence) e es u is =
    let bad : Stopped coincidence ≡ Running u =
    sym (over_stays (open_octets annex_b_terms) (written_machine annex_b) coincidence es) ∙ is in
    absurd cc
first_line (Running w) e es u is = by (next (open_octets annex_b_terms) (written_machine annex_b) w e) is
  where
    by : (s : StepResult Term ℕ (Outgoing Term ℕ)) → run_on (after s) es ≡ Running u → IsLine (reported s)
    by (Continues v told) k = tt
    by (Stops coincidence) k =
        let bad : Stopped coincidence ≡ Running u =
        sym (over_stays (open_octets annex_b_terms) (written_machine annex_b) coincidence es) ∙ k in
        absurd cc

all_lines : (r : TheRun) (es : List Event) (u : World Term ℕ (Outgoing Term ℕ)) → run_on r es ≡ Running u → AllOf IsLine (reports_on r es)
all_lines r [] u is = tt
all_lines r (e ∷ es) u is = (first_line r e es u is, all_lines (turn (open_octets annex_b_terms) (written_machine annex_b) r e) es u is)

-- and its report is the text of its lines, and the end
abbrev text_of : List Line → List ℕ
text_of lines = flat_map line_text lines

told_text : (step : ℕ) (rs : List (EventReport Term)) (end : List ℕ)
    → AllOf IsLine rs
    → (told_from step (map report_value rs) end).text ≡ text_of (lines_in (map report_value rs)) ++ end
told_text step [] end all = refl
told_text step (Reported told ∷ rs) end all =
    ap (λ t. line_text (line_out (map_line value_of told)) ++ t) (told_text (suc step) rs end all.1)
    ∙ sym (append_assoc (line_text (line_out (map_line value_of told))) (text_of (lines_in (map report_value rs))) end)
told_text step (Coincided coincidence ∷ rs) end all = absurd all.0

report_is : (setup : Setup) (events : List Event)
    → GoesOn setup events
    → (report_of setup events).text
    ≡ text_of (own_lines setup events) ++ end_of (length events) (phone_run setup events)
unfolding report_of phone_run
report_is setup events goes =
    told_text 0 (written_report setup events) (end_of (length events) (run_value annex_b (written_run setup events)))
    (all_lines (Running (first_world setup)) events goes.0 goes.1)

-- THE TEXTS OF ONE PHONE

texts_append : (p : ℕ) (xs ys : List Output) → phone_texts p (xs ++ ys) ≡ phone_texts p xs ++ phone_texts p ys
texts_append p [] ys = refl
texts_append p (ByFleet text ∷ xs) ys = texts_append p xs ys
texts_append p (ByPhone q text ∷ xs) ys = by (q == p) (texts_append p xs ys)
  where
    by : (b : Bool)
        → phone_texts p (xs ++ ys) ≡ phone_texts p xs ++ phone_texts p ys
        → text_if b text (phone_texts p (xs ++ ys)) ≡ text_if b text (phone_texts p xs) ++ phone_texts p ys
    by true more = ap (λ t. text ++ t) more ∙ sym (append_assoc text (phone_texts p xs) (phone_texts p ys))
    by false more = more

same_number : (p : ℕ) → (p == p) ≡ true
same_number p = eq-eqb p p refl

rows_texts : (p : ℕ) (rows : List LadderRow) (k : ℕ) (rest : List LadderRow) → phone_texts p (row_outputs p rows k rest) ≡ rows_from rows k rest
rows_texts p rows k [] = refl
rows_texts p rows k (r ∷ rest) =
    ap (λ b. text_if b (row_text rows k r) (phone_texts p (row_outputs p rows (k + 1) rest))) (same_number p)
    ∙ ap (λ t. row_text rows k r ++ t) (rows_texts p rows (k + 1) rest)

end_texts : (p events : ℕ) (run : RunState (List ℕ) ℕ Kept) → phone_texts p (end_outputs p events run) ≡ end_of events run
end_texts p events (Running w) =
    ap (λ b. text_if b (end_text events (length w.sent) (length (world_rows w)))
    (phone_texts p (row_outputs p (world_rows w) 0 (world_rows w))))
    (same_number p)
    ∙ ap (λ t. end_text events (length w.sent) (length (world_rows w)) ++ t) (rows_texts p (world_rows w) 0 (world_rows w))
end_texts p events (Stopped coincidence) = refl

-- of another phone
rows_none : (p q : ℕ) → (q == p) ≡ false → (rows : List LadderRow) (k : ℕ) (rest : List LadderRow) → phone_texts p (row_outputs q rows k rest) ≡ []
rows_none p q differ rows k [] = refl
rows_none p q differ rows k (r ∷ rest) =
    ap (λ b. text_if b (row_text rows k r) (phone_texts p (row_outputs q rows (k + 1) rest))) differ
    ∙ rows_none p q differ rows (k + 1) rest

end_none : (p q events : ℕ) → (q == p) ≡ false → (run : RunState (List ℕ) ℕ Kept) → phone_texts p (end_outputs q events run) ≡ []
end_none p q events differ (Running w) =
    ap (λ b. text_if b (end_text events (length w.sent) (length (world_rows w))) (phone_texts p (row_outputs q (world_rows w) 0 (world_rows w)))) differ
    ∙ rows_none p q differ (world_rows w) 0 (world_rows w)
end_none p q events differ (Stopped coincidence) = refl

differs : (p q : ℕ) → q ≢ p → (q == p) ≡ false
differs p q other = by (q == p) refl
  where
    by : (b : Bool) → (q == p) ≡ b → b ≡ false
    by false is = refl
    by true is = absurd (other (eqb-true q p is))

-- none behind it
ends_none : (setup : Setup) (p k : ℕ) (owns : List (List Event)) → p < k → phone_texts p (ends_from setup k owns) ≡ []
ends_none setup p k [] low = refl
ends_none setup p k (o ∷ owns) low =
    texts_append p (end_outputs k (length o) (phone_run setup o)) (ends_from setup (k + 1) owns)
    ∙ ap (λ t. t ++ phone_texts p (ends_from setup (k + 1) owns)) (end_none p k (length o) (differs p k (omega (arith, low))) (phone_run setup o))
    ∙ ends_none setup p (k + 1) owns (omega (arith, low))

ends_texts : (setup : Setup) (k i : ℕ) (owns : List (List Event))
    → i < length owns
    → phone_texts (k + i) (ends_from setup k owns) ≡ end_of (length (own_at owns i)) (phone_run setup (own_at owns i))
ends_texts setup k i [] low = absurd (omega (arith, low))
ends_texts setup k zero (o ∷ owns) low =
    let same : k + 0 ≡ k = omega arith in
    ap (λ n. phone_texts n (ends_from setup k (o ∷ owns))) same
    ∙ texts_append k (end_outputs k (length o) (phone_run setup o)) (ends_from setup (k + 1) owns)
    ∙ ap (λ t. phone_texts k (end_outputs k (length o) (phone_run setup o)) ++ t) (ends_none setup k (k + 1) owns (omega arith))
    ∙ append-nil (phone_texts k (end_outputs k (length o) (phone_run setup o))) ∙ end_texts k (length o) (phone_run setup o)
ends_texts setup k (suc i) (o ∷ owns) low =
    let on : k + suc i ≡ (k + 1) + i = omega arith in
    texts_append (k + suc i) (end_outputs k (length o) (phone_run setup o)) (ends_from setup (k + 1) owns)
    ∙ ap (λ t. t ++ phone_texts (k + suc i) (ends_from setup (k + 1) owns))
    (end_none (k + suc i) k (length o) (differs (k + suc i) k (omega arith)) (phone_run setup o))
    ∙ ap (λ n. phone_texts n (ends_from setup (k + 1) owns)) on
    ∙ ends_texts setup (k + 1) i owns (omega (arith, low))

-- of all lines: those of its events, and its end
abbrev end_at : Setup → List (List Event) → ℕ → List ℕ
end_at setup owns p = end_of (length (own_at owns p)) (phone_run setup (own_at owns p))

phone_text_is : (setup : Setup) (owns : List (List Event)) (step : ℕ) (events : List (ℕ × Event)) (p : ℕ) → p < length owns → AllAnswered setup owns events
    → phone_texts p (outputs_from setup owns step events).lines
    ≡ text_of (lines_of p (answers setup owns events)) ++ end_at setup (owns_from setup owns events) p
phone_text_is setup owns step [] p low answered =
    let same : 0 + p ≡ p = omega arith in
    ap (λ n. phone_texts n (ends_from setup 0 owns)) (sym same) ∙ ends_texts setup 0 p owns low
phone_text_is setup owns step (x ∷ xs) p low answered =
    by (answer setup owns x.0 x.1) answered.0
    (phone_text_is setup (owns_after setup owns x.0 x.1) (suc step) xs p (subst (λ n. p < n) (sym (length_after setup owns x.0 x.1)) low) answered.1)
  where
    by : (r : Result FleetLine FleetFault) → IsOk r
        → phone_texts p (outputs_from setup (owns_after setup owns x.0 x.1) (suc step) xs).lines
        ≡ text_of (lines_of p (answers setup (owns_after setup owns x.0 x.1) xs))
        ++ end_at setup (owns_from setup (owns_after setup owns x.0 x.1) xs) p
        → phone_texts p (goes_on r (answer_output step (length (own_at owns x.0)) r) (outputs_from setup (owns_after setup owns x.0 x.1) (suc step) xs)).lines
        ≡ text_of (lines_of p (r ∷ answers setup (owns_after setup owns x.0 x.1) xs)) ++ end_at setup (owns_from setup (owns_after setup owns x.0 x.1) xs) p
    by (Ok (line.Taken q)) ok more = more
    by (Ok (line.Of q told)) ok more = tied (q == p)
      where
        tied : (b : Bool) → text_if b (line_text told) (phone_texts p (outputs_from setup (owns_after setup owns x.0 x.1) (suc step) xs).lines)
            ≡ text_of (line_if b told (lines_of p (answers setup (owns_after setup owns x.0 x.1) xs)))
            ++ end_at setup (owns_from setup (owns_after setup owns x.0 x.1) xs) p
        tied false = more
        tied true =
            ap (λ t. line_text told ++ t) more
            ∙ sym (append_assoc (line_text told)
            (text_of (lines_of p (answers setup (owns_after setup owns x.0 x.1) xs)))
            (end_at setup (owns_from setup (owns_after setup owns x.0 x.1) xs) p))
    by (Err f) ok more = absurd (false≢true ok)

-- RANGES

at_set : (P : List Event → Type 0) (owns : List (List Event)) (p : ℕ) (x : List Event) (q : ℕ)
    → P x
    → ((i : ℕ) → P (own_at owns i))
    → P (own_at (set owns p x) q)
at_set P [] p x q here all = all q
at_set P (o ∷ owns) zero x zero here all = here
at_set P (o ∷ owns) zero x (suc q) here all = all (suc q)
at_set P (o ∷ owns) (suc p) x zero here all = all zero
at_set P (o ∷ owns) (suc p) x (suc q) here all = at_set P owns p x q here (λ i. all (suc i))

one_more : (own : List Event) (e : Event) → AllOf IsEvent own → IsEvent e → AllOf IsEvent (own ++ e ∷ [])
one_more [] e are is = (is, tt)
one_more (d ∷ own) e are is = (are.0, one_more own e are.1 is)

in_range : (setup : Setup) (phones : ℕ) (owns : List (List Event)) (events : List (ℕ × Event))
    → AllOf (IsEventOf phones) events
    → ((i : ℕ) → AllOf IsEvent (own_at owns i))
    → (p : ℕ)
    → AllOf IsEvent (own_at (owns_from setup owns events) p)
in_range setup phones owns [] are all p = all p
in_range setup phones owns (x ∷ xs) are all p = in_range setup phones (owns_after setup owns x.0 x.1) xs are.1 (by (taken_by setup owns x.0 x.1)) p
  where
    by : (t : Option ℕ) (i : ℕ) → AllOf IsEvent (own_at (owned_if t owns x.0 x.1) i)
    by (Some q) i = all i
    by None i = at_set (AllOf IsEvent) owns x.0 (own_at owns x.0 ++ x.1 ∷ []) i (one_more (own_at owns x.0) x.1 (all x.0) are.0.1) all

none_in_range : (n i : ℕ) → AllOf IsEvent (own_at (no_events n) i)
none_in_range zero i = tt
none_in_range (suc n) zero = tt
none_in_range (suc n) (suc i) = none_in_range n i

-- a report that no coincidence ends
no_coincidence : (setup : Setup) (owns : List (List Event)) (step : ℕ) (events : List (ℕ × Event))
    → (outputs_from setup owns step events).ends ≡ Done
    → AllAnswered setup owns events
no_coincidence setup owns step [] none = tt
no_coincidence setup owns step (x ∷ xs) none = by (answer setup owns x.0 x.1) none (no_coincidence setup (owns_after setup owns x.0 x.1) (suc step) xs)
  where
    by : (r : Result FleetLine FleetFault)
        → (goes_on r (answer_output step (length (own_at owns x.0)) r)
        (outputs_from setup (owns_after setup owns x.0 x.1) (suc step) xs)).ends
        ≡ Done
        → ((outputs_from setup (owns_after setup owns x.0 x.1) (suc step) xs).ends ≡ Done → AllAnswered setup (owns_after setup owns x.0 x.1) xs)
        → IsOk r × AllAnswered setup (owns_after setup owns x.0 x.1) xs
    by (Ok told) is rest = (refl, rest is)
    by (Err f) is rest = absurd cc

-- ALL OF IT

module _ (setup : Setup) (phones : ℕ) (events : List (ℕ × Event)) (is : IsSetup setup) (are : AllOf (IsEventOf phones) events) where
  all_answered : (fleet_report_of setup phones events).ends ≡ Done → AllAnswered setup (no_events phones) events
  unfolding fleet_report_of
  all_answered none = no_coincidence setup (no_events phones) 0 events none

  apart : (fleet_report_of setup phones events).ends ≡ Done → Apart setup (owns_of setup phones events)
  apart none = phones_apart setup phones events are (all_answered none)

  each_headline : (p : ℕ) → AllOf IsEvent (own setup phones events p)
  unfolding own
  each_headline p = in_range setup phones (no_events phones) events are (none_in_range phones) p

  isolated : (none : (fleet_report_of setup phones events).ends ≡ Done) (p : ℕ) → p < phones
      → phone_texts p (outputs_from setup (no_events phones) 0 events).lines
      ≡ text_of (lines_of p (answers setup (no_events phones) events))
      ++ end_of (length (own setup phones events p)) (phone_run setup (own setup phones events p))
  unfolding own
  isolated none p low = phone_text_is setup (no_events phones) 0 events p (subst (λ n. p < n) (sym (length-replicate phones [])) low) (all_answered none)

  own_goes : (none : (fleet_report_of setup phones events).ends ≡ Done) (p : ℕ) → GoesOn setup (own setup phones events p)
  unfolding own
  own_goes none p = (apart none).goes p

  pub holds : Holds setup phones events
  holds = record {
    headline = λ p low. headline setup (own setup phones events p) is (each_headline p);
    isolation = λ none p low.
        isolated none p low
        ∙ ap (λ l.
        text_of l ++ end_of (length (own setup phones events p)) (phone_run setup (own setup phones events p)))
        (lines_are_own setup phones events (all_answered none) p low)
        ∙ sym (report_is setup (own setup phones events p) (own_goes none p));
    freshness = λ none. no_use_twice setup (owns_of setup phones events) is (apart none);
    separation = λ none. phones_separate setup (owns_of setup phones events) is (apart none);
  }
