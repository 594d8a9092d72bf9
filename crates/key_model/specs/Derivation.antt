-- One derivation of TS 33.401 Annex A, in any reading of keys.
use Rattle.std.specs.Prelude.{ℕ, List}
use Rattle.annex_a_keys.specs.declared.derived.Derived.{Derived}
use Rattle.hmac_kdf.specs.declared.input.KdfInput.{KdfInput}
use Rattle.key_model.specs.Reading.{Reading}

-- what goes into a derivation beside the key
pub data Input (K : Type 0) : Type 0 where
  -- for KeNB: the uplink NAS COUNT (A.3)
  FromCount : ℕ → Input K
  -- for NH: the SYNC-input (A.4)
  FromSync : K → Input K
  -- for KeNB*: the target cell's PCI and EARFCN-DL (A.5)
  FromCell : ℕ → ℕ → Input K
  -- for an algorithm key: the algorithm type and identity (A.7)
  FromAlg : ℕ → ℕ → Input K

-- the key that it starts from, the input, and the key that comes out
pub record Derivation (K : Type 0) : Type 0 where
  pub key : K
  pub input : Input K
  pub out : K

-- each key read in another way
abbrev pub map_input : {K L : Type 0} → (K → L) → Input K → Input L
map_input f (FromCount count) = FromCount count
map_input f (FromSync sync) = FromSync (f sync)
map_input f (FromCell pci earfcn) = FromCell pci earfcn
map_input f (FromAlg type id) = FromAlg type id

abbrev pub map_derivation : {K L : Type 0} → (K → L) → Derivation K → Derivation L
map_derivation f d = record { key = f d.key; input = map_input f d.input; out = f d.out }

-- the derivations of a reading (A.3, A.4, A.5, A.7)
abbrev pub kenb_made : {K C : Type 0} → Reading K C → K → ℕ → Derivation K
kenb_made r root count = record { key = root; input = FromCount count; out = r.kenb root count }

abbrev pub nh_made : {K C : Type 0} → Reading K C → K → K → Derivation K
nh_made r root sync = record { key = root; input = FromSync sync; out = r.nh root sync }

abbrev pub star_made : {K C : Type 0} → Reading K C → K → ℕ → ℕ → Derivation K
star_made r base pci earfcn = record { key = base; input = FromCell pci earfcn; out = r.star base pci earfcn }

abbrev pub alg_made : {K C : Type 0} → Reading K C → K → ℕ → ℕ → Derivation K
alg_made r key type id = record { key = key; input = FromAlg type id; out = r.alg key type id }

-- the input in octets, as the KDF takes it
abbrev pub kdf_input : Input (List ℕ) → KdfInput
kdf_input (FromCount count) = KdfInput.Kenb count
kdf_input (FromSync sync) = KdfInput.Nh sync
kdf_input (FromCell pci earfcn) = KdfInput.Star pci earfcn
kdf_input (FromAlg type id) = KdfInput.Alg type id

-- a derivation in octets, as the code reports it
abbrev pub derived_of : Derivation (List ℕ) → Derived
derived_of d = record { key = d.key; input = kdf_input d.input; out = d.out }
