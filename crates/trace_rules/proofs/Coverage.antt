-- A history shows less where less is covered.
use Rattle.std.proofs.Common.{◌≡◌, ℕ, zero, suc, ◌≤◌, Bool, true, false, Option, None, Some, List, ◌∷◌, length, refl, ◌∙◌, ap, arith}
use Rattle.std.specs.Prelude.{IsTrue, filter, not, if◌then◌else◌}
use Rattle.trace_rules.specs.{Rules.Done, Rules.is_unseen, History.History, History.ends, History.unseen, History.shown}

not_fewer : (a b : Bool) → (IsTrue a → IsTrue b) → not b ≡ true → not a ≡ true
not_fewer false b f h = refl
not_fewer true true f h = h
not_fewer true false f h = f refl

module _ {N M S : Type 0} (moved : N → M → Option (Done N S)) (fits : S → S → Bool) (more fewer : S → Bool) (less : (x : S) → IsTrue (fewer x) → IsTrue (more x)) (same : (x y : S) → IsTrue (fits x y) → fewer x ≡ fewer y) where
  unseen_too : (sent : Option S) → is_unseen more sent ≡ true → is_unseen fewer sent ≡ true
  unseen_too None h = refl
  unseen_too (Some x) h = not_fewer (fewer x) (more x) (less x) h

  -- a message that is covered still, or not
  either_way : (bound left : ℕ) (net end : N) (sent sight : S) (move : M) (moves : List M) (capture : List S) (b : Bool)
      → fewer sight ≡ b
      → moved net move ≡ Some (record { net = end; sent = Some sent })
      → fits sent sight ≡ true
      → ((k : ℕ) → length moves ≤ k → History moved fits fewer bound k end moves (filter fewer capture))
      → length (move ∷ moves) ≤ left
      → length moves ≤ bound
      → History moved fits fewer bound left net (move ∷ moves) (if b then sight ∷ filter fewer capture else filter fewer capture)
  either_way bound left net end sent sight move moves capture true e done fit rest room few = shown move done fit e (rest bound few)
  either_way bound zero net end sent sight move moves capture false e done fit rest room few = absurd (omega arith)
  either_way bound (suc left) net end sent sight move moves capture false e done fit rest room few =
      unseen move done (ap not (same sent sight fit ∙ e)) (rest left (omega arith))

  pub less_is_shown : (old bound left : ℕ) (net : N) (moves : List M) (capture : List S)
      → History moved fits more old left net moves capture
      → (k : ℕ)
      → length moves ≤ k
      → length moves ≤ bound
      → History moved fits fewer bound k net moves (filter fewer capture)
  less_is_shown old bound left net moves capture (ends) k room few = ends
  less_is_shown old bound left net moves capture (unseen move done hid rest) zero room few = absurd (omega arith)
  less_is_shown old bound left net moves capture (unseen {left = l} {end = end} {sent = sent} {moves = ms} move done hid rest) (suc k) room few =
      unseen move done (unseen_too sent hid) (less_is_shown old bound l end ms capture rest k (omega arith) (omega arith))
  less_is_shown old bound left net moves capture (shown {end = end} {sent = sent} {sight = sight} {moves = ms} {capture = seen} move done fit cov rest) k room few =
      either_way bound k net end sent sight move ms seen (fewer sight) refl done fit
      (λ j r. less_is_shown old bound old end ms seen rest j r (omega arith)) room (omega arith)
