-- The S-box of FIPS 197: the inverse in the field, and then an affine map (5.1.1).
use Rattle.std.specs.Prelude.{ℕ, ◌+◌, ◌*◌, ◌%◌, ◌^◌, ◌==◌, find, map, sum, unwrap_or}
use Rattle.std.specs.{Int.bit_at, List.range_with_len}
use Rattle.aes_core.specs.Field.{multiply}

-- the octet whose product with x is 1, and 0 for 0, which has none (4.2, 5.1.1 step 1)
unfoldable pub inverse : ℕ → ℕ
inverse x = unwrap_or (find (λ y. multiply x y == 1) (range_with_len 0 256)) 0

-- bit i of the affine map of b, with the constant 63 hex (5.1.1 step 2)
abbrev pub affine_bit : ℕ → ℕ → ℕ
affine_bit b i =
    (bit_at b i + bit_at b ((i + 4) % 8) + bit_at b ((i + 5) % 8) + bit_at b ((i + 6) % 8)
    + bit_at b ((i + 7) % 8) + bit_at 0x63 i) % 2

-- the octet with these eight bits
unfoldable pub affine : ℕ → ℕ
affine b = sum (map (λ i. affine_bit b i * 2 ^ i) (range_with_len 0 8))

-- the S-box at one octet (5.1.1)
unfoldable pub sub_byte : ℕ → ℕ
sub_byte x = affine (inverse x)
