use Rattle.std.proofs.Common.{◌≡◌, length}
use Rattle.net_bag.specs.Bag.{IsIndexOf}
use Rattle.net_bag.proofs.bag.index_all.Given as goal

abbrev pub invariant-loop-number : goal.invariant-loop-number
invariant-loop-number l = IsIndexOf l.index l.records.records × (length l.index ≡ l.number)
