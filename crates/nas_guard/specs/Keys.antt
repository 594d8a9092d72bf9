-- The keys of a NAS security context (TS 33.401 6.2).
use Rattle.alg_choice.specs.declared.algs.Algs.{Algs}
use Rattle.annex_a_keys.specs.{declared.alg_type.AlgType.AlgType, declared.alg_type.AlgType.TheVariants.NasEnc}

-- KNASenc and KNASint, for keys K, and the chosen algorithms
pub record Keys (K : Type 0) : Type 0 where
  pub enc : K
  pub int : K
  pub algs : Algs

-- the keys read in another way
abbrev pub map_keys : {K L : Type 0} → (K → L) → Keys K → Keys L
map_keys f keys = record { enc = f keys.enc; int = f keys.int; algs = keys.algs }

-- the key of NAS encryption, or else that of NAS integrity
abbrev pub key_of : {K : Type 0} → Keys K → AlgType → K
key_of keys NasEnc = keys.enc
key_of keys other = keys.int
