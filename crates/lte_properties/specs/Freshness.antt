-- No key is used twice with one COUNT, BEARER and DIRECTION (TS 33.401 B.1.1 and B.2.1), also where COUNTs start again
-- (TS 33.401 7.2.8.4, TS 36.323 5.2).
use Rattle.std.specs.Prelude.{◌≡◌, ℕ, List, slice_get, Some}
use Rattle.lte_machine.specs.Wire.{KeyUse}

-- no two places of a list hold one use
abbrev pub NoUseTwice : {K : Type 0} → List (KeyUse K) → Type 0
NoUseTwice {K} uses = (i j : ℕ) (u : KeyUse K) → slice_get uses i ≡ Some u → slice_get uses j ≡ Some u → i ≡ j
