-- A search that no further unseen move would widen.
use Rattle.std.specs.Prelude.{ℕ, Bool, Option, List, [], ◌∷◌, flat_map}
use Rattle.trace_rules.specs.Rules.{Done, IsIn}
use Rattle.trace_rules.specs.Search.{hidden_from, shown_from, widened}

-- one unseen move more gives no net that is not there already
abbrev pub IsFull : {N M S : Type 0} → (N → M → Option (Done N S)) → (S → Bool) → List M → List N → Type 0
IsFull {N} moved covers family nets = (net : N) → IsIn net (flat_map (hidden_from moved covers family) nets) → IsIn net nets

-- before each sighting of a capture, and behind so many unseen moves
abbrev pub IsClosed : {N M S : Type 0} → (N → M → Option (Done N S)) → (S → S → Bool) → (S → Bool) → List M → ℕ → List N → List S → Type 0
IsClosed moved fits covers family bound nets [] = Unit {0}
IsClosed moved fits covers family bound nets (sight ∷ capture) =
    IsFull moved covers family (widened moved covers family bound nets)
    × IsClosed moved fits covers family bound
    (flat_map (shown_from moved fits covers family sight) (widened moved covers family bound nets)) capture
