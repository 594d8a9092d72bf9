-- The search: which nets are possible behind a capture.
use Rattle.std.specs.Prelude.{ℕ, zero, suc, Bool, ◌&&◌, if◌then◌else◌, Option, None, Some, List, [], ◌∷◌, ◌++◌, flat_map}
use Rattle.trace_rules.specs.Rules.{Done, is_unseen}

-- the net that an unseen move leaves
abbrev pub if_unseen : {N S : Type 0} → (S → Bool) → Option (Done N S) → List N
if_unseen covers None = []
if_unseen covers (Some done) = if is_unseen covers done.sent then done.net ∷ [] else []

-- the net that a move leaves which sends what was sighted
abbrev pub if_sent : {N S : Type 0} → (S → S → Bool) → (S → Bool) → S → N → Option S → List N
if_sent fits covers sight net None = []
if_sent fits covers sight net (Some sent) = if fits sent sight && covers sight then net ∷ [] else []

abbrev pub if_shown : {N S : Type 0} → (S → S → Bool) → (S → Bool) → S → Option (Done N S) → List N
if_shown fits covers sight None = []
if_shown fits covers sight (Some done) = if_sent fits covers sight done.net done.sent

-- the nets behind one unseen move of this family
abbrev pub hidden_from : {N M S : Type 0} → (N → M → Option (Done N S)) → (S → Bool) → List M → N → List N
hidden_from moved covers family net = flat_map (λ move. if_unseen covers (moved net move)) family

-- the nets behind one move of this family that shows this
abbrev pub shown_from : {N M S : Type 0} → (N → M → Option (Done N S)) → (S → S → Bool) → (S → Bool) → List M → S → N → List N
shown_from moved fits covers family sight net = flat_map (λ move. if_shown fits covers sight (moved net move)) family

-- the nets behind at most so many unseen moves
abbrev pub widened : {N M S : Type 0} → (N → M → Option (Done N S)) → (S → Bool) → List M → ℕ → List N → List N
widened moved covers family zero nets = nets
widened moved covers family (suc left) nets =
    nets ++ widened moved covers family left (flat_map (hidden_from moved covers family) nets)

-- the nets that are possible behind a capture
abbrev pub possible : {N M S : Type 0} → (N → M → Option (Done N S)) → (S → S → Bool) → (S → Bool) → List M → ℕ → List N → List S → List N
possible moved fits covers family bound nets [] = nets
possible moved fits covers family bound nets (sight ∷ capture) =
    possible moved fits covers family bound
    (flat_map (shown_from moved fits covers family sight) (widened moved covers family bound nets)) capture
