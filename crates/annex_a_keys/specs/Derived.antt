-- A derivation of TS 33.401 Annex A: the key, the input and what comes out.
use Rattle.std.specs.Prelude.{ℕ, List}
use Rattle.hmac_kdf.specs.{declared.input.KdfInput.KdfInput, Kdf.kdf}
use Rattle.annex_a_keys.specs.declared.derived.Derived.{Derived}

-- the derivation from this key and this input
abbrev pub derivation : List ℕ → KdfInput → Derived
derivation key input = record { key = key; input = input; out = kdf key input }
