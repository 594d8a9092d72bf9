-- Where a MAC is compared: under every integrity algorithm but EIA0, whose receiver takes any MAC (TS 33.401 B.0).
use Rattle.std.specs.Prelude.{ℕ, ◌||◌, not, Bool, true, false, List}
use Rattle.std.specs.Str.{bytes_eq}
use Rattle.alg_suite.specs.declared.integrity.Integrity.{Integrity}
use Rattle.alg_suite.specs.declared.integrity.Integrity.TheVariants.{Eia0, Eia1, Eia2, Eia3}

abbrev pub is_checked : Integrity → Bool
is_checked Eia0 = false
is_checked Eia1 = true
is_checked Eia2 = true
is_checked Eia3 = true

-- whether the MAC received is taken, where this one is computed
abbrev pub is_taken : Integrity → List ℕ → List ℕ → Bool
is_taken eia wanted got = not (is_checked eia) || bytes_eq wanted got
