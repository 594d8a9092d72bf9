-- The algorithm types of TS 33.401 A.7.
use Rattle.std.specs.Prelude.{ℕ}
use Rattle.annex_a_keys.specs.declared.alg_type.AlgType.{AlgType}
use Rattle.annex_a_keys.specs.declared.alg_type.AlgType.TheVariants.{NasEnc, NasInt, RrcEnc, RrcInt, UpEnc}

-- the algorithm type distinguisher (table A.7-1)
abbrev pub distinguisher : AlgType → ℕ
distinguisher NasEnc = 1
distinguisher NasInt = 2
distinguisher RrcEnc = 3
distinguisher RrcInt = 4
distinguisher UpEnc = 5

-- a type whose key comes from KASME
abbrev pub IsOfNas : AlgType → Type 0
IsOfNas NasEnc = Unit {0}
IsOfNas NasInt = Unit {0}
IsOfNas other = ⊥

-- a type whose key comes from KeNB
abbrev pub IsOfAs : AlgType → Type 0
IsOfAs RrcEnc = Unit {0}
IsOfAs RrcInt = Unit {0}
IsOfAs UpEnc = Unit {0}
IsOfAs other = ⊥
