use Rattle.std.proofs.Common.{◌≡◌, ◌++◌, drop, map}
use Rattle.item_faults.specs.AtOnce.{item_of}
use Rattle.item_faults.proofs.at_once.listed.Given as goal

abbrev pub invariant-loop-e : goal.invariant-loop-e
invariant-loop-e l =
    map (item_of l.senders l.entries) l.entries ≡ l.list.items ++ map (item_of l.senders l.entries) (drop l.e-index l.entries)
