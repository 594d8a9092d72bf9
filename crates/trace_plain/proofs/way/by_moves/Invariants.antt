use Rattle.std.proofs.Common.{◌≡◌, drop}
use Rattle.key_model.specs.Reading.{octet_reading}
use Rattle.trace_keys.specs.Moved.{moved as moved_by}
use Rattle.trace_keys.specs.Same.{same_net}
use Rattle.trace_plain.specs.Sights.{fits, is_covered}
use Rattle.trace_plain.specs.Way as by
use Rattle.trace_plain.proofs.way.by_moves.Given as goal

abbrev pub invariant-loop-one : goal.invariant-loop-one
invariant-loop-one l =
    let go = by.by_moves (moved_by octet_reading l.kasmes) fits (is_covered l.covered) l.bound same_net l.seen l.rest l.at in
    go (drop l.one-index l.family) l.way ≡ go l.family l.fn.way
