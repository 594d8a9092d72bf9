use Rattle.std.proofs.Common.{◌≡◌, ◌++◌, map, drop}
use Rattle.item_outcomes.specs.Outcomes.{sends}
use Rattle.item_outcomes.proofs.judging.sent_of.Given as goal

abbrev pub invariant-loop-t : goal.invariant-loop-t
invariant-loop-t l = map sends l.told ≡ l.list.items ++ map sends (drop l.t-index l.told)
