-- The end of a phone's report, by its world.
use Rattle.std.proofs.Common.{◌≡◌, sym, ap, subst, ◌∙◌, ℕ, ◌≤◌, length, arith}
use Rattle.lte_events.specs.{Ranges.IsSetup, Scenario.most_events}
use Rattle.lte_machine.specs.Run.{GoesOn}
use Rattle.lte_world.specs.Whole.{Whole, run_of}
use Rattle.fleet_world.specs.{Answers.own_at, Phones.phone_run, Worlds.Goes}
use Rattle.fleet_world.specs.Fleets.{Fleeted, IsOwn, owns_in, world_of}
use Rattle.fleet_world.proofs.Together.{octets_are}
use Rattle.fleet_report.specs.Lines.{texts, end_outputs}

module _ (v : Fleeted) (p : ℕ) (w : Whole) (is : w ≡ world_of v.setup (own_at (owns_in v) p)) (begins : IsSetup v.setup)
    (h : IsOwn v.setup (length v.journal) (own_at (owns_in v) p)) where
  pub goes_on : Goes w
  goes_on = subst Goes (sym is) (subst GoesOn (sym (octets_are v.setup (own_at (owns_in v) p) begins h.in_range)) h.goes)

  pub few : length v.journal ≤ most_events → length w.journal ≤ most_events
  few most = let same = ap (λ (x : Whole). length x.journal) is in omega (arith, same, h.few, most)

  pub text_is : texts (end_outputs p (length w.journal) (run_of w))
      ≡ texts (end_outputs p (length (own_at (owns_in v) p)) (phone_run v.setup (own_at (owns_in v) p)))
  text_is =
      ap (λ (x : Whole). texts (end_outputs p (length x.journal) (run_of x))) is
      ∙ ap (λ r. texts (end_outputs p (length (own_at (owns_in v) p)) r)) (octets_are v.setup (own_at (owns_in v) p) begins h.in_range)
