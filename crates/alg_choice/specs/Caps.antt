-- The algorithms that a phone supports (TS 24.301 9.9.3.36).
use Rattle.std.specs.Prelude.{◌<◌, Bool}
use Rattle.alg_choice.specs.{declared.algs.Eea.Eea, declared.caps.Caps.Caps, Bits.has_bit, Algs.identity_of, Algs.eia2_identity}

-- capabilities, two octets
abbrev pub IsCaps : Caps → Type 0
IsCaps caps = (caps.eea < 256) × (caps.eia < 256)

-- whether an encryption algorithm is among them
abbrev pub holds_eea : Caps → Eea → Bool
holds_eea caps eea = has_bit caps.eea (identity_of eea)

-- whether 128-EIA2 is among them
abbrev pub holds_eia2 : Caps → Bool
holds_eia2 caps = has_bit caps.eia eia2_identity
