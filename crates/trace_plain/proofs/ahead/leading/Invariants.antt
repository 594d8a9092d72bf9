use Rattle.std.proofs.Common.{◌≡◌, ◌++◌, drop}
use Rattle.key_model.specs.Reading.{octet_reading}
use Rattle.trace_keys.specs.Moved.{moved as moved_by}
use Rattle.trace_plain.specs.{Kept.leading_from, Sights.is_covered, Sights.leads}
use Rattle.trace_plain.proofs.ahead.leading.Given as goal

abbrev pub invariant-loop-by_move : goal.invariant-loop-by_move
invariant-loop-by_move l =
    let from = leading_from (moved_by octet_reading l.kasmes) (is_covered l.covered) in
    l.out.items ++ from (drop l.by_move-index l.family) (leads l.sight) l.net ≡ from l.family (leads l.sight) l.net
