use Rattle.std.proofs.Common.{◌≡◌, ℕ, ◌<◌, false, Some, slice_get}
use Rattle.net_bag.specs.{declared.view.BagView.BagView, Bag.is_sent}
use Rattle.net_bag.proofs.search.first_sent.Given as goal

abbrev pub invariant-loop-number : goal.invariant-loop-number
invariant-loop-number l =
    (j : ℕ) (r : BagView) → j < l.number → slice_get l.records.records j ≡ Some r → is_sent l.class l.octets r ≡ false
