-- The nets that the search keeps between two sightings, each once, and where they are too many.
use Rattle.std.specs.Prelude.{ℕ, zero, suc, ◌<◌, ◌≡◌, Bool, ◌&&◌, if◌then◌else◌, Option, None, Some, List, [], ◌∷◌, length, take, drop, flat_map, slice_get}
use Rattle.trace_rules.specs.{Rules.Done, Rules.is_unseen, Search.hidden_from, Search.shown_from}
use Rattle.trace_plain.specs.Once.{once_from}

-- the greatest number of nets between two sightings
abbrev pub most_nets : ℕ
most_nets = 8192

-- the net that an unseen move leaves, if it may show what comes next
abbrev pub if_leading : {N S : Type 0} → (N → Bool) → (S → Bool) → Option (Done N S) → List N
if_leading may covers None = []
if_leading may covers (Some done) = if is_unseen covers done.sent && may done.net then done.net ∷ [] else []

abbrev pub leading_from : {N M S : Type 0} → (N → M → Option (Done N S)) → (S → Bool) → List M → (N → Bool) → N → List N
leading_from moved covers family may net = flat_map (λ move. if_leading may covers (moved net move)) family

-- With those behind so many unseen moves and one more. Of those behind the last one only those are kept that may show what comes next.
-- The successors of the first `begun` are there already.
abbrev pub led_after : {N M S : Type 0} → (N → M → Option (Done N S)) → (S → Bool) → List M → (N → N → Bool) → (N → Bool) → ℕ → ℕ → List N → List N
led_after moved covers family alike may zero begun all = once_from alike all (flat_map (leading_from moved covers family may) (drop begun all))
led_after moved covers family alike may (suc left) begun all =
    led_after moved covers family alike may left (length all) (once_from alike all (flat_map (hidden_from moved covers family) (drop begun all)))

-- with those behind at most so many
abbrev pub led_once : {N M S : Type 0} → (N → M → Option (Done N S)) → (S → Bool) → List M → (N → N → Bool) → (N → Bool) → ℕ → List N → List N
led_once moved covers family alike may zero nets = nets
led_once moved covers family alike may (suc left) nets = led_after moved covers family alike may left 0 nets

module _ {N M S : Type 0} (moved : N → M → Option (Done N S)) (fits : S → S → Bool) (covers : S → Bool) (family : List M) (bound : ℕ) (alike : N → N → Bool) (may : S → N → Bool) where
  -- behind a sighting
  abbrev pub shown_once : S → List N → List N
  shown_once sight nets =
      once_from alike [] (flat_map (shown_from moved fits covers family sight) (led_once moved covers family alike (may sight) bound nets))

  -- behind a capture
  abbrev pub kept_behind : List N → List S → List N
  kept_behind nets [] = nets
  kept_behind nets (sight ∷ capture) = kept_behind (shown_once sight nets) capture

  -- before this sighting more nets are possible than are kept
  pub record TooManyNets (start : N) (capture : List S) : Type 0 where
    pub place : ℕ
    pub sight : S
    pub here : slice_get capture place ≡ Some sight
    pub many : most_nets < length (led_once moved covers family alike (may sight) bound (kept_behind (start ∷ []) (take place capture)))
