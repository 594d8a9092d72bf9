use Rattle.std.proofs.Common.{◌≡◌, drop}
use Rattle.key_model.specs.Reading.{octet_reading}
use Rattle.trace_keys.specs.Moved.{moved as moved_by}
use Rattle.trace_keys.specs.Same.{same_net}
use Rattle.trace_plain.specs.Sights.{fits, is_covered}
use Rattle.trace_plain.specs.Way as by
use Rattle.trace_plain.proofs.way.way_on.Given as goal

abbrev pub invariant-loop-place : goal.invariant-loop-place
invariant-loop-place l =
    let go = by.way_on (moved_by octet_reading l.kasmes) fits (is_covered l.covered) l.family l.bound same_net in
    go (drop l.place l.capture) l.way ≡ go l.capture l.fn.way
