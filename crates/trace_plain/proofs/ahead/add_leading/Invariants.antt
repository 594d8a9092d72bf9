use Rattle.std.proofs.Common.{◌≡◌, flat_map, drop}
use Rattle.key_model.specs.Reading.{octet_reading}
use Rattle.trace_keys.specs.Moved.{moved as moved_by}
use Rattle.trace_keys.specs.Same.{same_net as same_net_by}
use Rattle.trace_plain.specs.{Kept.leading_from, Once.once_from, Sights.is_covered, Sights.leads}
use Rattle.trace_plain.proofs.ahead.add_leading.Given as goal

abbrev pub invariant-loop-net : goal.invariant-loop-net
invariant-loop-net l =
    let from = leading_from (moved_by octet_reading l.kasmes) (is_covered l.covered) l.family (leads l.sight) in
    once_from same_net_by l.all (flat_map from (drop l.net-index l.nets)) ≡ once_from same_net_by l.fn.all (flat_map from l.nets)
