-- Numbers that C gives for an algorithm and a direction.
use Rattle.std.specs.Prelude.{ℕ, ◌==◌, ◌&&◌, nat_lt, Bool, if◌then◌else◌}
use Rattle.alg_suite.specs.{declared.ciphering.Ciphering.Ciphering, declared.integrity.Integrity.Integrity}
use Rattle.alg_suite.specs.declared.ciphering.Ciphering.TheVariants.{Eea0, Eea1, Eea2, Eea3}
use Rattle.alg_suite.specs.declared.integrity.Integrity.TheVariants.{Eia0, Eia1, Eia2, Eia3}
use Rattle.rec_base.specs.declared.uses.Dir.{Dir}
use Rattle.rec_base.specs.declared.uses.Dir.TheVariants.{Up, Down}

-- the identity of an encryption or an integrity algorithm: 0 for the null algorithm, 1 to 3 for SNOW 3G, AES and ZUC (TS 33.401
-- 5.1.3.2 and 5.1.4.2)
abbrev pub is_identity : ℕ → Bool
is_identity identity = nat_lt identity 4

abbrev pub eea_of : ℕ → Ciphering
eea_of identity =
    if identity == 0 then Eea0 else (if identity == 1 then Eea1 else (if identity == 2 then Eea2 else Eea3))

abbrev pub eia_of : ℕ → Integrity
eia_of identity =
    if identity == 0 then Eia0 else (if identity == 1 then Eia1 else (if identity == 2 then Eia2 else Eia3))

-- DIRECTION: 0 for uplink, 1 for downlink (TS 33.401 B.1.1)
abbrev pub is_direction : ℕ → Bool
is_direction direction = nat_lt direction 2

abbrev pub dir_of : ℕ → Dir
dir_of direction = if direction == 0 then Up else Down

-- BEARER, of 5 bits, and DIRECTION
abbrev pub is_use : ℕ → ℕ → Bool
is_use bearer direction = nat_lt bearer 32 && is_direction direction
