use Rattle.std.proofs.Common.{◌≡◌, drop}
use Rattle.key_model.specs.Reading.{octet_reading}
use Rattle.trace_keys.specs.Moved.{moved as moved_by}
use Rattle.trace_keys.specs.Same.{same_net}
use Rattle.trace_plain.specs.Sights.{fits, is_covered}
use Rattle.trace_plain.specs.Way as by
use Rattle.trace_plain.proofs.way.from_each.Given as goal

abbrev pub invariant-loop-at : goal.invariant-loop-at
invariant-loop-at l =
    let go = by.from_each (moved_by octet_reading l.kasmes) fits (is_covered l.covered) l.family l.bound same_net l.seen l.rest in
    go (drop l.at-index l.steps) l.way ≡ go l.steps l.fn.way
