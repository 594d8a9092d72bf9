-- Products on octets, by which SNOW 3G makes its S-boxes and its feedback (TS 35.216 3.1; the clause numbers of
-- TS 35.216 are from memory).
use Rattle.std.specs.Prelude.{ℕ, zero, suc, ◌*◌, ◌%◌, bit_xor}
use Rattle.std.specs.Int.{bit_at}

-- MULx: an octet one bit up, and c added where its highest bit was set (3.1.1)
abbrev pub mulx : ℕ → ℕ → ℕ
mulx v c = bit_xor (v * 2 % 256) (bit_at v 7 * c)

-- MULxPOW: MULx i times (3.1.2)
unfoldable pub mulxpow : ℕ → ℕ → ℕ → ℕ
mulxpow v zero c = v
mulxpow v (suc i) c = mulx (mulxpow v i c) c
