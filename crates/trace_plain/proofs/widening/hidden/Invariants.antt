use Rattle.std.proofs.Common.{◌≡◌, ◌++◌, drop}
use Rattle.key_model.specs.Reading.{octet_reading}
use Rattle.trace_keys.specs.Moved.{moved as moved_by}
use Rattle.trace_rules.specs.Search.{hidden_from}
use Rattle.trace_plain.specs.Sights.{is_covered}
use Rattle.trace_plain.proofs.widening.hidden.Given as goal

abbrev pub invariant-loop-by_move : goal.invariant-loop-by_move
invariant-loop-by_move l =
    let from = hidden_from (moved_by octet_reading l.kasmes) (is_covered l.covered) in
    l.out.items ++ from (drop l.by_move-index l.family) l.net ≡ from l.family l.net
