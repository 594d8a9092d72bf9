-- The key derivation function of TS 33.220 B.2 with the inputs of TS 33.401 Annex A.
use Rattle.std.specs.Prelude.{ℕ, ◌<◌, ◌≤◌, ◌^◌, List, [], ◌∷◌, ◌++◌, length, nat_lt, if◌then◌else◌}
use Rattle.std.specs.Int.{w16, w32, to_be_bytes, bytes_high_first}
use Rattle.hmac_kdf.specs.{declared.input.KdfInput.KdfInput, Hmac.hmac}
use Rattle.hmac_kdf.specs.declared.input.KdfInput.TheVariants.{Kenb, Nh, Star, Alg}

-- a parameter P and its length L in two octets (TS 33.220 B.2)
abbrev pub parameter : List ℕ → List ℕ
parameter octets = octets ++ to_be_bytes w16 (length octets)

-- the greatest EARFCN-DL, of 18 bits (TS 36.331 6.4, maxEARFCN2)
abbrev pub greatest_earfcn : ℕ
greatest_earfcn = 262143

-- an EARFCN-DL in two octets up to 65535, in three above (TS 33.401 A.5)
abbrev pub earfcn_octets : ℕ → List ℕ
earfcn_octets earfcn = if nat_lt 65535 earfcn then bytes_high_first 3 earfcn else bytes_high_first 2 earfcn

-- the string S: FC and then each parameter with its length (TS 33.401 A.3, A.4, A.5 and A.7)
unfoldable pub kdf_string : KdfInput → List ℕ
kdf_string (Kenb count) = 0x11 ∷ parameter (to_be_bytes w32 count)
kdf_string (Nh sync) = 0x12 ∷ parameter sync
kdf_string (Star pci earfcn) = 0x13 ∷ parameter (to_be_bytes w16 pci) ++ parameter (earfcn_octets earfcn)
kdf_string (Alg kind identity) = 0x15 ∷ parameter (kind ∷ []) ++ parameter (identity ∷ [])

-- an input whose numbers fit their parameters: COUNT in 4 octets, PCI in 2 octets, EARFCN-DL in 18 bits
abbrev pub IsKdfInput : KdfInput → Type 0
IsKdfInput (Kenb count) = count < 2 ^ 32
IsKdfInput (Nh sync) = Unit {0}
IsKdfInput (Star pci earfcn) = (pci < 2 ^ 16) × (earfcn ≤ greatest_earfcn)
IsKdfInput (Alg kind identity) = Unit {0}

-- the derived key: HMAC-SHA-256 of the string under the key (TS 33.220 B.2)
unfoldable pub kdf : List ℕ → KdfInput → List ℕ
kdf key input = hmac key (kdf_string input)
