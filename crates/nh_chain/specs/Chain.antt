-- The chain of NH keys below one KASME, as the core and a phone keep it (TS 33.401 7.2.8.1.1).
use Rattle.std.specs.Prelude.{ℕ, zero, suc, List, [], ◌∷◌, ◌++◌}
use Rattle.key_model.specs.{Reading.Reading, HandoverTable.NumberedKey, HandoverLines.nh_after, Derivation.Derivation, Derivation.nh_made}

-- KASME, the key of the present chain number, which is the next SYNC-input, and that number
pub record ChainState (K C : Type 0) : Type 0 where
  pub root : K
  pub sync : K
  pub number : C

-- the chain, each key and the number read in another way
abbrev pub map_chain : {K C L D : Type 0} → (K → L) → (C → D) → ChainState K C → ChainState L D
map_chain f g chain = record { root = f chain.root; sync = f chain.sync; number = g chain.number }

-- the chain of a KeNB, whose number is the first
abbrev pub begun : {K C : Type 0} → Reading K C → K → K → ChainState K C
begun r root kenb = record { root = root; sync = kenb; number = r.first }

-- the key of the present number
abbrev pub present_pair : {K C : Type 0} → ChainState K C → NumberedKey K C
present_pair chain = record { key = chain.sync; number = chain.number }

-- one NH step on, as the core goes for each new pair (7.2.8.4.2, 7.2.8.4.3)
abbrev pub stepped : {K C : Type 0} → Reading K C → ChainState K C → ChainState K C
stepped r chain =
    record { root = chain.root; sync = r.nh chain.root chain.sync; number = r.plus chain.number 1 }

-- the number so many NH steps on
abbrev pub number_after : {K C : Type 0} → Reading K C → C → ℕ → C
number_after r number zero = number
number_after r number (suc steps) = r.plus number (suc steps)

-- the chain so many NH steps on, as a phone goes (7.2.8.4.4)
abbrev pub climbed : {K C : Type 0} → Reading K C → ChainState K C → ℕ → ChainState K C
climbed r chain steps = record {
  root = chain.root;
  sync = nh_after r chain.root chain.sync steps;
  number = number_after r chain.number steps;
}

-- the derivations of so many NH steps from a SYNC-input, in order (A.4)
abbrev pub nhs_made : {K C : Type 0} → Reading K C → K → K → ℕ → List (Derivation K)
nhs_made r root sync zero = []
nhs_made r root sync (suc steps) =
    nhs_made r root sync steps ++ nh_made r root (nh_after r root sync steps) ∷ []
