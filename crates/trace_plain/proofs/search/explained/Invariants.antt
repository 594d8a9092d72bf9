use Rattle.std.proofs.Common.{◌≡◌, [], ◌∷◌, take}
use Rattle.key_model.specs.Reading.{octet_reading}
use Rattle.trace_keys.specs.Moved.{moved as moved_by}
use Rattle.trace_keys.specs.Same.{same_net}
use Rattle.trace_plain.specs.{Kept.kept_behind, Sights.fits, Sights.is_covered, Sights.leads}
use Rattle.trace_plain.proofs.Steps.{Before}
use Rattle.trace_plain.proofs.search.explained.Given as goal

abbrev pub invariant-loop-sight : goal.invariant-loop-sight
invariant-loop-sight l = record {
  number : l.count ≡ l.sight-index;
  kept : l.nets ≡ kept_behind (moved_by octet_reading l.kasmes) fits (is_covered l.covered) l.family l.bound same_net leads (l.start ∷ []) (take l.sight-index l.capture);
  before : Before (moved_by octet_reading l.kasmes) fits (is_covered l.covered) l.family l.bound l.start l.capture l.sight-index l.nets l.closed;
}
