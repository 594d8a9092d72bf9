-- How many nets are kept.
use Rattle.std.proofs.Common.{◌≡◌, ℕ, zero, suc, ◌+◌, ◌<◌, ◌≤◌, Bool, Option, List, [], ◌∷◌, ◌++◌, length, take, drop, get_or, flat_map, refl, sym, ap, ◌∙◌, arith}
use Rattle.std.proofs.lemmas.List.{take_more}
use Rattle.trace_rules.specs.{Rules.Done, Search.hidden_from}
use Rattle.trace_plain.specs.{Once.once_from, Kept.leading_from, Kept.led_after, Kept.shown_once, Kept.kept_behind}
use Rattle.trace_plain.proofs.Once.{once_longer}

module _ {N M S : Type 0} (moved : N → M → Option (Done N S)) (covers : S → Bool) (family : List M) (alike : N → N → Bool) (may : N → Bool) where
  pub led_longer : (left begun : ℕ) (all : List N) → length all ≤ length (led_after moved covers family alike may left begun all)
  led_longer zero begun all = once_longer alike all (flat_map (leading_from moved covers family may) (drop begun all))
  led_longer (suc left) begun all =
      let new = once_from alike all (flat_map (hidden_from moved covers family) (drop begun all)) in
      omega (
        arith,
        once_longer alike all (flat_map (hidden_from moved covers family) (drop begun all)),
        led_longer left (length all) new,
      )

module _ {N M S : Type 0} (moved : N → M → Option (Done N S)) (fits : S → S → Bool) (covers : S → Bool) (family : List M) (alike : N → N → Bool) (may : S → N → Bool) where
  module _ (bound : ℕ) where
    kept_more : (capture : List S) (sight : S) (nets : List N)
        → kept_behind moved fits covers family bound alike may nets (capture ++ sight ∷ [])
        ≡ shown_once moved fits covers family bound alike may sight (kept_behind moved fits covers family bound alike may nets capture)
    kept_more [] sight nets = refl
    kept_more (x ∷ capture) sight nets = kept_more capture sight (shown_once moved fits covers family bound alike may x nets)

    -- one sighting more
    pub kept_next : (start : N) (capture : List S) (i : ℕ) (sight : S) (nets ends : List N)
        → i < length capture
        → sight ≡ get_or capture i sight
        → nets ≡ kept_behind moved fits covers family bound alike may (start ∷ []) (take i capture)
        → ends ≡ shown_once moved fits covers family bound alike may sight nets
        → ends ≡ kept_behind moved fits covers family bound alike may (start ∷ []) (take (i + 1) capture)
    kept_next start capture i sight nets ends lt item is on =
        on
        ∙ ap (shown_once moved fits covers family bound alike may sight) is
        ∙ sym (kept_more (take i capture) sight (start ∷ []))
        ∙ ap (kept_behind moved fits covers family bound alike may (start ∷ [])) (ap (λ y. take i capture ++ y ∷ []) item ∙ sym (take_more capture i sight lt))
