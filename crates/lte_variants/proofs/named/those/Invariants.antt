use Rattle.std.proofs.Common.{◌≡◌, ◌≤◌, ◌++◌, drop, length}
use Rattle.std.specs.List.{filter}
use Rattle.item_outcomes.specs.Probe.{is_among}
use Rattle.lte_variants.proofs.named.those.Given as goal

abbrev pub invariant-loop-step : goal.invariant-loop-step
invariant-loop-step l = record {
  found : filter (is_among l.messages) l.named ≡ l.list.items ++ filter (is_among l.messages) (drop l.step-index l.named);
  few : length l.list.items ≤ l.step-index;
}
