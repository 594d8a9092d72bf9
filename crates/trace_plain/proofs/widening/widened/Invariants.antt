use Rattle.std.proofs.Common.{◌≡◌, ◌≤◌, ◌-◌, ℕ, Bool, List, length}
use Rattle.key_model.specs.Reading.{octet_reading}
use Rattle.trace_keys.specs.{Moved.moved as moved_by, Net.Net, Same.same_net}
use Rattle.trace_rules.proofs.Widening.{Known}
use Rattle.trace_plain.specs.{Kept.led_after, Sights.fits, Sights.is_covered}
use Rattle.trace_plain.proofs.widening.widened.Given as goal

abbrev pub invariant-loop-turn : goal.invariant-loop-turn
invariant-loop-turn l = record {
  known : Known (moved_by octet_reading l.kasmes) fits (is_covered l.covered) l.family l._turn l.fn.all l.all l.begun;
  within : l.begun ≤ length l.all;
  on : (may : Net (List ℕ) ℕ → Bool)
      → led_after (moved_by octet_reading l.kasmes) (is_covered l.covered) l.family same_net may (l.turns - l._turn) l.begun l.all
      ≡ led_after (moved_by octet_reading l.kasmes) (is_covered l.covered) l.family same_net may l.turns 0 l.fn.all;
}
