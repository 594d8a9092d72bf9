-- The octets of an item stay where they stand when more are put behind them.
use Rattle.std.proofs.Common.{◌≡◌, ℕ, suc, ◌≤◌, ◌+◌, List, [], ◌∷◌, ◌++◌, length, map, take, drop, refl, ap, ◌∙◌, arith}
use Rattle.std.proofs.lemmas.List.{take-append-le, drop-append-le, length-drop, map-append}
use Rattle.std.proofs.Math.Seq.{take-length, drop-append_seam}
use Rattle.lte_events.specs.{declared.texts.Piece.Piece, Texts.item_of, Texts.AreWithin}

octets_stay : (flat more : List ℕ) (start len : ℕ) → start + len ≤ length flat → take len (drop start (flat ++ more)) ≡ take len (drop start flat)
octets_stay flat more start len within =
    let left = length-drop start flat in
    ap (take len) (drop-append-le start flat more (omega (arith, within))) ∙ take-append-le len (drop start flat) more (omega (arith, within, left))

module _ {T : Type 0} (flat octets : List ℕ) where
  items_stay : (pieces : List (Piece T)) → AreWithin pieces flat → map (item_of (flat ++ octets)) pieces ≡ map (item_of flat) pieces
  items_stay [] within = refl
  items_stay (p ∷ pieces) within =
      let same = octets_stay flat octets p.start p.len (within 0 p refl).0 in
      let rest = items_stay pieces (λ k p' at. within (suc k) p' at) in
      λ i. record { tag = p.tag; octets = same i } ∷ rest i

  -- an item that was put behind the others
  item_put : (p : Piece T) → p.start ≡ length flat → p.len ≡ length octets → item_of (flat ++ octets) p ≡ record { tag = p.tag; octets = octets }
  item_put p start len =
      let cut : take p.len (drop p.start (flat ++ octets)) ≡ octets = rw (start, len, drop-append_seam flat octets) (take-length octets) in
      λ i. record { tag = p.tag; octets = cut i }

  pub items_put : (pieces : List (Piece T)) (p : Piece T)
      → AreWithin pieces flat
      → p.start ≡ length flat
      → p.len ≡ length octets
      → map (item_of (flat ++ octets)) (pieces ++ p ∷ [])
      ≡ map (item_of flat) pieces ++ record { tag = p.tag; octets = octets } ∷ []
  items_put pieces p within start len =
      let before = items_stay pieces within in
      let last = item_put p start len in
      map-append (item_of (flat ++ octets)) pieces (p ∷ []) ∙ (λ i. before i ++ last i ∷ [])
