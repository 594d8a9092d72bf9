-- The report of a fleet, piece by piece.
use Rattle.std.proofs.Common.{◌≡◌, refl, sym, ap, ◌∙◌, ℕ, zero, suc, ◌+◌, ◌<◌, ◌≤◌, List, [], ◌∷◌, ◌++◌, length, drop, append_assoc, append-nil, arith, Result, Ok, Err}
use Rattle.std.proofs.lemmas.List.{length-replicate}
use Rattle.std.specs.Prelude.{slice_get, Some, IfOk}
use Rattle.lte_events.specs.{declared.events.Event.Event, declared.setups.Setup.Setup}
use Rattle.key_terms.specs.declared.row.LadderRow.{LadderRow}
use Rattle.lte_machine.specs.Machines.{Kept}
use Rattle.lte_machine.specs.Run.{RunState, Running, Stopped, GoesOn}
use Rattle.lte_world.specs.Whole.{InRun}
use Rattle.report_text.specs.{End.end_text, Ladder.row_text}
use Rattle.store_laws.specs.Rows.{world_rows}
use Rattle.fleet_world.specs.{declared.faults.FleetFault.FleetFault, declared.lines.FleetLine.FleetLine, Phones.phone_run}
use Rattle.fleet_world.specs.Answers.{answer, own_at, owns_after, owns_from, owns_of, no_events}
use Rattle.fleet_world.proofs.{Searching.rows_left, Separating.length_after}
use Rattle.run_report.specs.declared.endings.Ending.TheVariants.{Chance}
use Rattle.run_report.proofs.Partly.{Begins, followed}
use Rattle.fleet_report.specs.Events.{answer_ends, answer_report}
use Rattle.fleet_report.specs.Lines.{Output, output_text, texts, phone_text, answer_output, row_outputs, end_outputs}
use Rattle.fleet_report.specs.Report.{Outputs, ends_from, goes_on, outputs_from, report_from}

-- ROWS

pub row_next : (p : ℕ) (rows : List LadderRow) (k : ℕ) (r : LadderRow) → slice_get rows k ≡ Some r
    → Begins (texts (row_outputs p rows k (drop k rows))) (phone_text p (row_text rows k r)) (texts (row_outputs p rows (k + 1) (drop (k + 1) rows)))
row_next p rows k r at = record { is = ap (λ l. texts (row_outputs p rows k l)) (rows_left rows k r at) }

drop_past : {A : Type 0} (xs : List A) (k : ℕ) → length xs ≤ k → drop k xs ≡ []
drop_past [] zero le = refl
drop_past [] (suc k) le = refl
drop_past (x ∷ xs) zero le = absurd (omega (arith, le))
drop_past (x ∷ xs) (suc k) le = drop_past xs k (omega (arith, le))

pub rows_past : (p : ℕ) (rows : List LadderRow) (k : ℕ) → length rows ≤ k → texts (row_outputs p rows k (drop k rows)) ≡ []
rows_past p rows k le = ap (λ l. texts (row_outputs p rows k l)) (drop_past rows k le)

-- THE END OF A PHONE

pub end_is : (p events records : ℕ) (rows : List LadderRow) (run : RunState (List ℕ) ℕ Kept)
    → GoesOn run
    → InRun (λ w. rows ≡ world_rows w) run
    → InRun (λ w. records ≡ length w.sent) run
    → texts (end_outputs p events run) ≡ phone_text p (end_text events records (length rows)) ++ texts (row_outputs p rows 0 rows)
end_is p events records rows (Running w) goes are few =
    ap (λ n. phone_text p (end_text events n (length (world_rows w))) ++ texts (row_outputs p (world_rows w) 0 (world_rows w))) (sym few)
    ∙ ap (λ rs. phone_text p (end_text events records (length rs)) ++ texts (row_outputs p rs 0 rs)) (sym are)
end_is p events records rows (Stopped coincidence) goes are few = absurd goes

texts_append : (xs ys : List Output) → texts (xs ++ ys) ≡ texts xs ++ texts ys
texts_append [] ys = refl
texts_append (x ∷ xs) ys = ap (λ t. output_text x ++ t) (texts_append xs ys) ∙ sym (append_assoc (output_text x) (texts xs) (texts ys))

drop_one : (xs : List (List Event)) (k : ℕ) → k < length xs → drop k xs ≡ own_at xs k ∷ drop (suc k) xs
drop_one [] k low = absurd (omega (arith, low))
drop_one (x ∷ xs) zero low = refl
drop_one (x ∷ xs) (suc k) low = drop_one xs k (omega (arith, low))

pub end_next : (setup : Setup) (owns : List (List Event)) (k : ℕ) → k < length owns
    → Begins (texts (ends_from setup k (drop k owns)))
    (texts (end_outputs k (length (own_at owns k)) (phone_run setup (own_at owns k))))
    (texts (ends_from setup (k + 1) (drop (k + 1) owns)))
end_next setup owns k low =
    let next : suc k ≡ k + 1 = omega arith in record {
      is = ap (λ l. texts (ends_from setup k l)) (drop_one owns k low ∙ ap (λ n. own_at owns k ∷ drop n owns) next)
          ∙ texts_append (end_outputs k (length (own_at owns k)) (phone_run setup (own_at owns k))) (ends_from setup (k + 1) (drop (k + 1) owns));
    }

pub ends_past : (setup : Setup) (owns : List (List Event)) (k : ℕ) → length owns ≤ k → texts (ends_from setup k (drop k owns)) ≡ []
ends_past setup owns k le = ap (λ l. texts (ends_from setup k l)) (drop_past owns k le)

length_from : (setup : Setup) (owns : List (List Event)) (events : List (ℕ × Event)) → length (owns_from setup owns events) ≡ length owns
length_from setup owns [] = refl
length_from setup owns (x ∷ xs) = length_from setup (owns_after setup owns x.0 x.1) xs ∙ length_after setup owns x.0 x.1

pub many_owns : (setup : Setup) (phones : ℕ) (events : List (ℕ × Event)) → length (owns_of setup phones events) ≡ phones
many_owns setup phones events = length_from setup (no_events phones) events ∙ length-replicate phones []

-- EVENTS

-- an answer, and what comes behind it
follows_by : (r : Result FleetLine FleetFault) (out : Output) (rest : Outputs)
    → record { text = texts (goes_on r out rest).lines; ends = (goes_on r out rest).ends }
    ≡ followed (record { text = output_text out; ends = answer_ends r }) (record { text = texts rest.lines; ends = rest.ends })
follows_by (Ok told) out rest = refl
follows_by (Err ended) out rest = ap (λ t. record { text = t; ends = Chance }) (append-nil (output_text out))

pub event_more : (setup : Setup) (owns : List (List Event)) (step : ℕ) (x : ℕ × Event) (xs : List (ℕ × Event))
    → report_from setup owns step (x ∷ xs)
    ≡ followed (answer_report step (length (own_at owns x.0)) (answer setup owns x.0 x.1))
    (report_from setup (owns_after setup owns x.0 x.1) (suc step) xs)
event_more setup owns step x xs =
    follows_by (answer setup owns x.0 x.1) (answer_output step (length (own_at owns x.0)) (answer setup owns x.0 x.1))
    (outputs_from setup (owns_after setup owns x.0 x.1) (suc step) xs)

pub none_left : (events : List (ℕ × Event)) (i : ℕ) → length events ≤ i → drop i events ≡ []
none_left events i le = drop_past events i le

-- what holds of an answer
pub if_ok : {A E : Type 0} (P Q : A → Type 0) (result : Result A E) → ((a : A) → P a → Q a) → IfOk result P → IfOk result Q
if_ok P Q (Ok a) f h = f a h
if_ok P Q (Err e) f h = h
