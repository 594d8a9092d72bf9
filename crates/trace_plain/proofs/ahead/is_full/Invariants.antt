use Rattle.std.proofs.Common.{drop, flat_map}
use Rattle.key_model.specs.Reading.{octet_reading}
use Rattle.trace_keys.specs.Moved.{moved as moved_by}
use Rattle.trace_rules.specs.Search.{hidden_from}
use Rattle.trace_rules.proofs.Members.{Sub}
use Rattle.trace_plain.specs.Sights.{is_covered}
use Rattle.trace_plain.proofs.ahead.is_full.Given as goal

abbrev pub invariant-loop-net : goal.invariant-loop-net
invariant-loop-net l =
    let from = hidden_from (moved_by octet_reading l.kasmes) (is_covered l.covered) l.family in
    Sub (flat_map from (drop l.net-index l.nets)) l.all → Sub (flat_map from l.nets) l.all
