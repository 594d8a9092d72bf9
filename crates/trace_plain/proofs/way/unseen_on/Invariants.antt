use Rattle.std.proofs.Common.{◌≡◌, ◌-◌}
use Rattle.key_model.specs.Reading.{octet_reading}
use Rattle.trace_keys.specs.Moved.{moved as moved_by}
use Rattle.trace_keys.specs.Same.{same_net}
use Rattle.trace_plain.specs.Sights.{fits, is_covered}
use Rattle.trace_plain.specs.Way as by
use Rattle.trace_plain.proofs.way.unseen_on.Given as goal

abbrev pub invariant-loop-turn : goal.invariant-loop-turn
invariant-loop-turn l =
    let go = by.unseen_on (moved_by octet_reading l.kasmes) fits (is_covered l.covered) l.family l.bound same_net in
    go (l.bound - l._turn) l.rest l.way ≡ go l.bound l.rest l.fn.way
