-- The table of a point: what each four bits of a number add to its product with the point.
use Rattle.std.specs.Prelude.{ℕ, zero, suc, ◌*◌, ◌/◌, ◌%◌, ◌^◌, List, [], bit_xor, map, slice_index, slice_index_or}
use Rattle.std.specs.{Int.bit_at, List.range_with_len}
use Rattle.eia1.specs.Polynomial.{times_power}

-- the sum of those of four numbers whose bit is 1 in a number of four bits
abbrev pub four_sum : ℕ → ℕ → ℕ → ℕ → ℕ → ℕ
four_sum a b c d n =
    bit_xor (bit_xor (bit_xor (bit_at n 0 * a) (bit_at n 1 * b)) (bit_at n 2 * c)) (bit_at n 3 * d)

-- the sum of v times x^i over the bits i of a number of four bits
abbrev pub four_terms : ℕ → ℕ → ℕ
four_terms v n = four_sum v (times_power v 1) (times_power v 2) (times_power v 3) n

-- the row of a number: that at 0 to 15
unfoldable pub row_of : ℕ → List ℕ
row_of v = map (four_terms v) (range_with_len 0 16)

-- the rows of a point: those of its products with x^0, x^4, and so on to x^60
unfoldable pub rows_of : ℕ → List (List ℕ)
rows_of p = map (λ j. row_of (times_power p (4 * j))) (range_with_len 0 16)

-- the sum of the entries at the lowest n groups of four bits of a number, one of each row
unfoldable pub sum_of : List (List ℕ) → ℕ → ℕ → ℕ
sum_of rows v zero = 0
sum_of rows v (suc j) = bit_xor (sum_of rows v j) (slice_index (slice_index_or rows j []) (v / 2 ^ (4 * j) % 16))
