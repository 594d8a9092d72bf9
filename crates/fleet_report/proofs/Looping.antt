-- The events of a fleet's report, one after the other.
use Rattle.std.proofs.Common.{◌≡◌, sym, ap, subst, ◌∙◌, ℕ, suc, ◌+◌, ◌<◌, ◌≤◌, List, length, drop, slice_get, Some, None, All, arith}
use Rattle.std.proofs.{lemmas.List.length-replicate, lemmas.Option.slice_get_within, lemmas.List.Elements.recursion_from_All}
use Rattle.std.specs.List.{AllByRecursion as AllOf}
use Rattle.lte_events.specs.{Ranges.IsEvent, Scenario.CanHappen, Scenario.IsScenarioBy, declared.events.Event.Event, declared.setups.Setup.Setup}
use Rattle.fleet_world.specs.Answers.{answer, own_at, owns_after, owns_of, no_events}
use Rattle.fleet_world.specs.Apart.{IsEventOf}
use Rattle.fleet_world.specs.Fleets.{Fleeted, CanTake, owns_in, answer_of, begun}
use Rattle.fleet_world.proofs.Standing.{owns_snoc}
use Rattle.run_report.specs.{declared.endings.Ending.TheVariants.Done, Report.Report}
use Rattle.run_report.proofs.{HappenedSoFar.item_at, HappenedSoFar.left_at, Partly.followed, Partly.Follows}
use Rattle.fleet_report.specs.Events.{answer_report, event_report, IsOfPhone, Takes}
use Rattle.fleet_report.specs.Lines.{texts}
use Rattle.fleet_report.specs.Report.{report_from, ends_from, fleet_report_of}
use Rattle.fleet_report.proofs.{CoincidenceHasText.answers_are, ReportByPiece.none_left, ReportByPiece.event_more}

pub can_take : (setup : Setup) (v : Fleeted) (phones : ℕ) (events : List (ℕ × Event)) (i : ℕ) (x : ℕ × Event)
    → v.setup ≡ setup
    → length v.worlds ≡ phones
    → length v.journal ≡ i
    → slice_get events i ≡ Some x
    → IsScenarioBy (λ (y : ℕ × Event). y.1) setup events → All (IsOfPhone phones) events → CanTake v x.0 x.1
can_take setup v phones events i x same many count at scenario of_phones =
    let low = slice_get_within events i x at in
    let is = item_at events i x at in
    record {
      phone = subst (λ n. x.0 < n) (sym many) (subst (IsOfPhone phones) is (of_phones i x low));
      can = subst (λ s. CanHappen s x.1) (sym same) (subst (λ (y : ℕ × Event). CanHappen setup y.1) is (scenario.can_happen i x low));
      few = omega (arith, count, low, scenario.few);
    }

-- events in range
pub all_in_range : (phones : ℕ) (events : List (ℕ × Event)) → All (IsOfPhone phones) events → All (λ x. IsEvent x.1) events → AllOf (IsEventOf phones) events
all_in_range phones events of_phones are = recursion_from_All (IsEventOf phones) events (λ k d low. (of_phones k d low, are k d low))

-- what is left of the report behind the first i events, as the fleet is then
unfoldable pub left_of : Fleeted → List (ℕ × Event) → ℕ → Report
left_of v events i = report_from v.setup (owns_in v) i (drop i events)

module _ (v : Fleeted) (events : List (ℕ × Event)) (i : ℕ) (x : ℕ × Event) (none : v.over ≡ None)
    (count : length v.journal ≡ i) (at : slice_get events i ≡ Some x) where
  -- what comes behind the event
  abbrev pub behind : Report
  behind = report_from v.setup (owns_after v.setup (owns_in v) x.0 x.1) (suc i) (drop (suc i) events)

  pub event_next : Follows (left_of v events i) (event_report v x.0 x.1) behind
  unfolding left_of event_report
  event_next =
      let same : answer v.setup (owns_in v) x.0 x.1 ≡ answer_of v x.0 x.1 = sym (answers_are v x.0 x.1 none) in
      record {
        is = ap (report_from v.setup (owns_in v) i) (left_at events i x at) ∙ event_more v.setup (owns_in v) i x (drop (suc i) events)
            ∙ (λ j. followed (answer_report (sym count j) (length (own_at (owns_in v) x.0)) (same j)) behind);
      }

  pub behind_is : (u : Fleeted) → Takes v x.0 x.1 u → behind ≡ left_of u events (i + 1)
  unfolding left_of
  behind_is u takes =
      let next : suc i ≡ i + 1 = omega arith in
      let owns : owns_after v.setup (owns_in v) x.0 x.1 ≡ owns_in u =
      sym ((λ j. owns_of (takes.setup j) (takes.worlds j) (takes.journal j)) ∙ owns_snoc v.setup (no_events (length v.worlds)) v.journal x.0 x.1) in
      λ j. report_from (sym takes.setup j) (owns j) (next j) (drop (next j) events)

-- at the end
pub end_is : (v : Fleeted) (events : List (ℕ × Event)) (i : ℕ)
    → length events ≤ i
    → left_of v events i ≡ record { text = texts (ends_from v.setup 0 (owns_in v)); ends = Done }
unfolding left_of
end_is v events i past = ap (report_from v.setup (owns_in v) i) (none_left events i past)

-- at the beginning
pub first_is : (setup : Setup) (phones : ℕ) (v : Fleeted) (events : List (ℕ × Event))
    → v ≡ begun setup phones
    → fleet_report_of setup phones events ≡ left_of v events 0
unfolding fleet_report_of left_of
first_is setup phones v events is =
    let many : length (begun setup phones).worlds ≡ phones = length-replicate phones _ in
    ap (λ n. report_from setup (no_events n) 0 events) (sym many) ∙ ap (λ (u : Fleeted). report_from u.setup (owns_in u) 0 events) (sym is)
