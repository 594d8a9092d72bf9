use Rattle.std.proofs.Common.{◌≡◌, [], length, drop, All}
use Rattle.toml.specs.View.{items_view}
use Rattle.lte_events.specs.Scenario.{CanHappen}
use Rattle.scenario_file.specs.Reading.{kept_from}
use Rattle.scenario_file.proofs.whole.kept_steps.Given as goal

abbrev pub invariant-loop-value : goal.invariant-loop-value
invariant-loop-value g l = record {
  so_far : kept_from g.E.Kept.kept l.system l.start [] (items_view l.values)
      ≡ kept_from g.E.Kept.kept l.system l.start (g.E.Kept.items l.steps) (items_view (drop l.value-index l.values));
  can : All (λ e. CanHappen l.start.setup (g.E.Kept.happening e)) (g.E.Kept.items l.steps);
  stand : All (g.E.Kept.is_of l.start.phones) (g.E.Kept.items l.steps);
  number : length (g.E.Kept.items l.steps) ≡ l.value-index;
}
