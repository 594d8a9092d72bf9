-- A lawful history, and what it shows to taps.
use Rattle.std.specs.Prelude.{◌≡◌, ℕ, suc, Bool, true, Option, Some, List, [], ◌∷◌}
use Rattle.trace_rules.specs.Rules.{Done, is_unseen}

-- From this net these moves, each lawful where it stands, show exactly this capture to taps that have what `covers` says. What a
-- move sends is what was captured if it `fits` it. At most `left` moves go unseen before the first sighting, and at most `bound`
-- between two.
pub data History {N M S : Type 0} (moved : N → M → Option (Done N S)) (fits : S → S → Bool) (covers : S → Bool) (bound : ℕ) : ℕ → N → List M → List S → Type 0 where
  -- nothing more happens, and nothing more was captured
  ends : {left : ℕ} {net : N} → History moved fits covers bound left net [] []
  -- a move that no tap sees
  unseen : {left : ℕ} {net end : N} {sent : Option S} {moves : List M} {capture : List S} (move : M)
      → moved net move ≡ Some (record { net = end; sent = sent })
      → is_unseen covers sent ≡ true
      → History moved fits covers bound left end moves capture
      → History moved fits covers bound (suc left) net (move ∷ moves) capture
  -- a move whose message is the next of the capture
  shown : {left : ℕ} {net end : N} {sent sight : S} {moves : List M} {capture : List S} (move : M)
      → moved net move ≡ Some (record { net = end; sent = Some sent })
      → fits sent sight ≡ true
      → covers sight ≡ true
      → History moved fits covers bound bound end moves capture
      → History moved fits covers bound left net (move ∷ moves) (sight ∷ capture)
