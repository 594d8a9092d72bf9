use Rattle.std.proofs.Common.{◌≡◌, ◌++◌, drop}
use Rattle.key_model.specs.Reading.{octet_reading}
use Rattle.trace_keys.specs.Moved.{moved as moved_by}
use Rattle.trace_rules.specs.Search.{shown_from}
use Rattle.trace_plain.specs.Sights.{fits, is_covered}
use Rattle.trace_plain.proofs.widening.push_shown_from.Given as goal

abbrev pub invariant-loop-by_move : goal.invariant-loop-by_move
invariant-loop-by_move l =
    let from = shown_from (moved_by octet_reading l.kasmes) fits (is_covered l.covered) in
    l.out.items ++ from (drop l.by_move-index l.family) l.sight l.net ≡ l.fn.out.items ++ from l.family l.sight l.net
