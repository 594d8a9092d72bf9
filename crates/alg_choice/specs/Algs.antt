-- The identities of the encryption algorithms.
use Rattle.std.specs.Prelude.{ℕ}
use Rattle.alg_choice.specs.declared.algs.Eea.{Eea}
use Rattle.alg_choice.specs.declared.algs.Eea.TheVariants.{Eea0, Eea2}

-- the algorithm identity (TS 33.401 5.1.3.2)
abbrev pub identity_of : Eea → ℕ
identity_of Eea0 = 0
identity_of Eea2 = 2

-- the identity of 128-EIA2 (TS 33.401 5.1.4.2)
abbrev pub eia2_identity : ℕ
eia2_identity = 2
