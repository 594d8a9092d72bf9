-- The report, event by event.
use Rattle.std.proofs.Common.{◌≡◌, refl, sym, ap, ◌∙◌, ℕ, suc, ◌+◌, ◌<◌, ◌≤◌, Some, Result, Ok, Err, List, [], ◌∷◌, ◌++◌, length, drop, take, drop_of_length-le, add-one, arith}
use Rattle.std.specs.List.{slice_get}
use Rattle.std.proofs.{lemmas.List.length-take-le, lemmas.Option.slice_get_within, Math.Seq.take-suc, Math.Seq.take-length}
use Rattle.lte_events.specs.{declared.events.Event.Event, declared.setups.Setup.Setup}
use Rattle.lte_world.specs.{declared.faults.WorldFault.WorldFault, Whole.Whole, Whole.run_of}
use Rattle.run_report.specs.{declared.endings.Ending.TheVariants.Done, Report.Report, Report.end_of}
use Rattle.run_report.proofs.{Partly.followed, Partly.Follows, HappenedSoFar.item_at, HappenedSoFar.left_at}
use Rattle.core_relocation.specs.{declared.lines.TwoLine.TwoLine, Whole.TwoWhole, Whole.state_written}
use Rattle.core_relocation.specs.Report.{answer_report, two_report_of, two_told_from}
use Rattle.core_relocation.specs.Run.{TwoState, answers, heard_of, next_answer, next_state, run_after, two_state}
use Rattle.core_relocation.proofs.Keeping.{state_more}

one_more : (step : ℕ) (told : Result TwoLine WorldFault) (rest : List (Result TwoLine WorldFault)) (end : List ℕ)
    → two_told_from step (told ∷ rest) end ≡ followed (answer_report step told) (two_told_from (suc step) rest end)
one_more step (Ok line) rest end = refl
one_more step (Err fault) rest end = refl

module _ (setup : Setup) (core_of : List ℕ) (events : List Event) where
  abbrev pub the_end : List ℕ
  the_end = end_of (length (heard_of setup core_of events)) (run_after setup core_of (heard_of setup core_of events))

  -- what is left of the report behind the first so many events
  abbrev pub rest_at : ℕ → Report
  rest_at i = two_told_from i (answers setup core_of (two_state setup core_of (take i events)) (drop i events)) the_end

  pub whole_is : two_report_of setup core_of events ≡ rest_at 0
  unfolding two_report_of two_state
  whole_is = refl

  -- two cores that took the first so many events
  module _ (v : TwoWhole) (set : v.world.setup ≡ setup) (same : v.cores.core_of ≡ core_of) (i : ℕ) (taken : v.events ≡ take i events) where
    -- one more
    module _ (e : Event) (at : slice_get events i ≡ Some e) where
      within : i < length events
      within = slice_get_within events i e at

      next_taken : take (i + 1) events ≡ take i events ++ e ∷ []
      next_taken = ap (λ k. take k events) (add-one i) ∙ take-suc events i e within ∙ ap (λ x. take i events ++ x ∷ []) (item_at events i e at)

      pub follows : Follows (rest_at i) (answer_report (length v.events) (next_answer v.world.setup v.cores.core_of (state_written v) e)) (rest_at (i + 1))
      follows =
          let s : TwoState = two_state setup core_of (take i events) in
          let number : length v.events ≡ i = ap length taken ∙ length-take-le i events (omega (arith, within)) in
          let told : next_answer v.world.setup v.cores.core_of (state_written v) e ≡ next_answer setup core_of s e =
          λ j. next_answer (set j) (same j) (two_state (set j) (same j) (taken j)) e in
          let state : next_state setup core_of s e ≡ two_state setup core_of (take (i + 1) events) =
          sym (ap (two_state setup core_of) next_taken ∙ state_more setup core_of (take i events) e) in
          let next = sym (add-one i) in
          record {
            is = ap (λ es. two_told_from i (answers setup core_of s es) the_end) (left_at events i e at)
                ∙ one_more i (next_answer setup core_of s e) (answers setup core_of (next_state setup core_of s e) (drop (suc i) events)) the_end
                ∙ (λ j. followed (answer_report (sym number j) (sym told j))
                (two_told_from (next j) (answers setup core_of (state j) (drop (next j) events)) the_end));
          }

      pub taken_more : (now : List Event) → now ≡ v.events ++ e ∷ [] → now ≡ take (i + 1) events
      taken_more now is = is ∙ ap (λ es. es ++ e ∷ []) taken ∙ sym next_taken

    -- all of them
    pub ends : (w : Whole)
        → w ≡ v.world
        → v.world.journal ≡ heard_of v.world.setup v.cores.core_of v.events
        → run_of v.world ≡ run_after v.world.setup v.cores.core_of v.world.journal
        → i ≤ length events → length events ≤ i → rest_at i ≡ record { text = end_of (length w.journal) (run_of w); ends = Done }
    ends w is journal run low past =
        let number : i ≡ length events = omega (arith, low, past) in
        let whole : v.events ≡ events = taken ∙ ap (λ k. take k events) number ∙ take-length events in
        let heard : v.world.journal ≡ heard_of setup core_of events = journal ∙ (λ j. heard_of (set j) (same j) (whole j)) in
        let text : end_of (length w.journal) (run_of w) ≡ the_end =
        ap (λ u. end_of (length u.journal) (run_of u)) is ∙ ap (λ r. end_of (length v.world.journal) r) run
        ∙ (λ j. end_of (length (heard j)) (run_after (set j) (same j) (heard j))) in
        ap (λ es. two_told_from i (answers setup core_of (two_state setup core_of (take i events)) es) the_end) (drop_of_length-le events past)
        ∙ ap (λ t. record { text = t; ends = Done }) (sym text)
