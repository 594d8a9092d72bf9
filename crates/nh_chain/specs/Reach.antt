-- What a phone makes of a handover command (TS 33.401 7.2.8.4.4).
use Rattle.std.specs.Prelude.{ℕ, zero, suc, List, [], ◌∷◌, ◌++◌}
use Rattle.annex_a_keys.specs.Cell.{Place}
use Rattle.rec_base.specs.declared.ways.Way.{Way}
use Rattle.rec_base.specs.declared.ways.Way.TheVariants.{Horizontal, Vertical}
use Rattle.key_model.specs.{Reading.Reading, HandoverTable.NumberedKey, Derivation.Derivation, Derivation.star_made}
use Rattle.key_model.specs.HandoverLines.{PhoneKeys, nh_after, steps_to, key_after}
use Rattle.nh_chain.specs.Chain.{ChainState, climbed, nhs_made}

-- the keys of a phone with this chain and this active KeNB
abbrev pub phone_of : {K C : Type 0} → ChainState K C → K → PhoneKeys K C
phone_of chain active =
    record { root = chain.root; number = chain.number; sync = chain.sync; active = active }

-- horizontal after no NH step, and else vertical
abbrev pub way_after : ℕ → Way
way_after zero = Horizontal
way_after (suc steps) = Vertical

-- the key of which KeNB* is derived after so many NH steps: the active KeNB, or else the NH reached
abbrev pub base_after : {K C : Type 0} → Reading K C → PhoneKeys K C → ℕ → K
base_after r phone zero = phone.active
base_after r phone (suc steps) = nh_after r phone.root phone.sync (suc steps)

-- the derivations of a handover after so many NH steps: each NH, and then KeNB* (A.4 and A.5)
abbrev pub handover_made : {K C : Type 0} → Reading K C → PhoneKeys K C → ℕ → Place → List (Derivation K)
handover_made r phone steps cell =
    nhs_made r phone.root phone.sync steps ++ star_made r (base_after r phone steps) cell.pci cell.earfcn ∷ []

-- the chain afterwards, KeNB* with its number, the way and the derivations in order
pub record Reached (K C : Type 0) : Type 0 where
  pub chain : ChainState K C
  pub star : NumberedKey K C
  pub way : Way
  pub made : List (Derivation K)

-- after so many NH steps
abbrev pub reached_after : {K C : Type 0} → Reading K C → ChainState K C → K → ℕ → Place → Reached K C
reached_after r chain active steps cell = record {
  chain = climbed r chain steps;
  star = key_after r (phone_of chain active) steps cell.pci cell.earfcn;
  way = way_after steps;
  made = handover_made r (phone_of chain active) steps cell;
}

-- a phone with this chain and this active KeNB, on a command with this NCC for this cell: the steps are those from its
-- own number to the least at or above it with the NCC
abbrev pub reached : {K C : Type 0} → Reading K C → ChainState K C → K → ℕ → Place → Reached K C
reached r chain active ncc cell = reached_after r chain active (steps_to (r.ncc chain.number) ncc) cell
