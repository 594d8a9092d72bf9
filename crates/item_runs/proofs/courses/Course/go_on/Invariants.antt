use Rattle.std.proofs.Common.{◌≡◌, ◌+◌, ◌*◌, ◌≤◌, length, drop}
use Rattle.item_runs.specs.Course.{going_on}
use Rattle.items.specs.Items.{most_at_once}
use Rattle.item_runs.proofs.courses.Course.go_on.Given as goal

abbrev pub invariant-loop-item : goal.invariant-loop-item
invariant-loop-item l = record {
  setup : l.self.setup ≡ l.initial.self.setup;
  coming : going_on l.initial.self.setup l.acts.items l.items l.initial.self.coming
      ≡ going_on l.initial.self.setup l.acts.items (drop l.item-index l.items) l.self.coming;
  few : length l.self.coming.events ≤ length l.initial.self.coming.events + l.item-index * (most_at_once + 1);
}
