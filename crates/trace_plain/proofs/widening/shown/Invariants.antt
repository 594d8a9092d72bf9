use Rattle.std.proofs.Common.{◌≡◌, ◌++◌, flat_map, drop}
use Rattle.key_model.specs.Reading.{octet_reading}
use Rattle.trace_keys.specs.Moved.{moved as moved_by}
use Rattle.trace_rules.specs.Search.{shown_from}
use Rattle.trace_plain.specs.Sights.{fits, is_covered}
use Rattle.trace_plain.proofs.widening.shown.Given as goal

abbrev pub invariant-loop-net : goal.invariant-loop-net
invariant-loop-net l =
    let from = shown_from (moved_by octet_reading l.kasmes) fits (is_covered l.covered) l.family l.sight in
    l.out.items ++ flat_map from (drop l.net-index l.nets) ≡ flat_map from l.nets
