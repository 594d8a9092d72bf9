-- Where f and g carry one reading to another, they carry what a chain does.
use Rattle.std.proofs.Common.{◌≡◌, ℕ, zero, suc, [], ◌∷◌, ◌++◌, map, refl, ◌∙◌, ap}
use Rattle.std.proofs.lemmas.List.{map-append}
use Rattle.annex_a_keys.specs.Cell.{Place}
use Rattle.key_model.specs.Reading.{Reading, Carries}
use Rattle.key_model.specs.HandoverLines.{map_numbered, PhoneKeys, map_phone, nh_after}
use Rattle.key_model.specs.Derivation.{map_derivation, nh_made, star_made}
use Rattle.key_model.proofs.HandoverFacts.{nh_after-map, key_after-map}
use Rattle.nh_chain.specs.Chain.{ChainState, map_chain, number_after, climbed, nhs_made}
use Rattle.nh_chain.specs.Reach.{Reached, phone_of, way_after, base_after, handover_made, reached_after}
use Rattle.nh_chain.specs.Station.{map_pair, map_station_key, Opened}

-- what a phone makes of a command, each key and number read in another way
abbrev pub map_reached : {K C L D : Type 0} → (K → L) → (C → D) → Reached K C → Reached L D
map_reached f g made = record {
  chain = map_chain f g made.chain;
  star = map_numbered f g made.star;
  way = made.way;
  made = map (map_derivation f) made.made;
}

-- what a handover opens with, each key and number read in another way
abbrev pub map_opened : {K C L D : Type 0} → (K → L) → (C → D) → Opened K C → Opened L D
map_opened f g made = record {
  key = map_station_key f g made.key;
  star = map_numbered f g made.star;
  spent = map_pair f g made.spent;
  way = made.way;
  made = map_derivation f made.made;
}

module _ {K C L D : Type 0} (r : Reading K C) (q : Reading L D) (f : K → L) (g : C → D) (c : Carries r q f g) where
  number_after-map : (number : C) (steps : ℕ) → g (number_after r number steps) ≡ number_after q (g number) steps
  number_after-map number zero = refl
  number_after-map number (suc steps) = c.plus number (suc steps)

  pub climbed-map : (chain : ChainState K C) (steps : ℕ) → map_chain f g (climbed r chain steps) ≡ climbed q (map_chain f g chain) steps
  climbed-map chain steps = λ k. record {
    root = f chain.root;
    sync = nh_after-map r q f g c chain.root chain.sync steps k;
    number = number_after-map chain.number steps k;
  }

  nh_made-map : (root sync : K) → map_derivation f (nh_made r root sync) ≡ nh_made q (f root) (f sync)
  nh_made-map root sync = ap (λ out. record (nh_made q (f root) (f sync)) { out = out }) (c.nh root sync)

  star_made-map : (base : K) (pci earfcn : ℕ) → map_derivation f (star_made r base pci earfcn) ≡ star_made q (f base) pci earfcn
  star_made-map base pci earfcn = ap (λ out. record (star_made q (f base) pci earfcn) { out = out }) (c.star base pci earfcn)

  pub nhs_made-map : (root sync : K) (steps : ℕ) → map (map_derivation f) (nhs_made r root sync steps) ≡ nhs_made q (f root) (f sync) steps
  nhs_made-map root sync zero = refl
  nhs_made-map root sync (suc steps) =
      let last = nh_made-map root (nh_after r root sync steps) ∙ ap (nh_made q (f root)) (nh_after-map r q f g c root sync steps) in
      map-append (map_derivation f) (nhs_made r root sync steps) (nh_made r root (nh_after r root sync steps) ∷ [])
      ∙ (λ k. nhs_made-map root sync steps k ++ last k ∷ [])

  base_after-map : (phone : PhoneKeys K C) (steps : ℕ) → f (base_after r phone steps) ≡ base_after q (map_phone f g phone) steps
  base_after-map phone zero = refl
  base_after-map phone (suc steps) = nh_after-map r q f g c phone.root phone.sync (suc steps)

  handover_made-map : (phone : PhoneKeys K C) (steps : ℕ) (cell : Place)
      → map (map_derivation f) (handover_made r phone steps cell) ≡ handover_made q (map_phone f g phone) steps cell
  handover_made-map phone steps cell =
      let star = star_made-map (base_after r phone steps) cell.pci cell.earfcn
      ∙ ap (λ base. star_made q base cell.pci cell.earfcn) (base_after-map phone steps) in
      map-append (map_derivation f) (nhs_made r phone.root phone.sync steps) (star_made r (base_after r phone steps) cell.pci cell.earfcn ∷ [])
      ∙ (λ k. nhs_made-map phone.root phone.sync steps k ++ star k ∷ [])

  pub reached_after-map : (chain : ChainState K C) (active : K) (steps : ℕ) (cell : Place)
      → map_reached f g (reached_after r chain active steps cell)
      ≡ reached_after q (map_chain f g chain) (f active) steps cell
  reached_after-map chain active steps cell = λ k. record {
    chain = climbed-map chain steps k;
    star = key_after-map r q f g c (phone_of chain active) steps cell.pci cell.earfcn k;
    way = way_after steps;
    made = handover_made-map (phone_of chain active) steps cell k;
  }
