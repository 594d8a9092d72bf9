use Rattle.std.proofs.Common.{◌≡◌, flat_map, drop}
use Rattle.key_model.specs.Reading.{octet_reading}
use Rattle.trace_keys.specs.Moved.{moved as moved_by}
use Rattle.trace_keys.specs.Same.{same_net as same_net_by}
use Rattle.trace_rules.specs.Search.{hidden_from}
use Rattle.trace_plain.specs.Once.{once_from}
use Rattle.trace_plain.specs.Sights.{is_covered}
use Rattle.trace_plain.proofs.widening.add_hidden.Given as goal

abbrev pub invariant-loop-net : goal.invariant-loop-net
invariant-loop-net l =
    let from = hidden_from (moved_by octet_reading l.kasmes) (is_covered l.covered) l.family in
    once_from same_net_by l.all (flat_map from (drop l.net-index l.nets)) ≡ once_from same_net_by l.fn.all (flat_map from l.nets)
