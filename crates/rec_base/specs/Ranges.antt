-- Which numbers, octets and texts there are.
use Rattle.std.specs.Prelude.{◌≡◌, ℕ, ◌<◌, ◌≤◌, ◌^◌, List, length, All}

-- a number of 32 bits; and one of those that are drawn, from 1 on
abbrev pub Is32Bits : ℕ → Type 0
Is32Bits n = n < 2 ^ 32

abbrev pub IsNumber : ℕ → Type 0
IsNumber n = (1 ≤ n) × Is32Bits n

-- octets; a text of at most so many; a key of 32
abbrev pub AreOctets : List ℕ → Type 0
AreOctets octets = All (λ octet. octet < 256) octets

abbrev pub IsText : ℕ → List ℕ → Type 0
IsText most text = AreOctets text × (length text ≤ most)

abbrev pub IsKey : List ℕ → Type 0
IsKey key = AreOctets key × (length key ≡ 32)
