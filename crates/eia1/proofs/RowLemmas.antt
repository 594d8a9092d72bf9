-- The table of a point against the product with it.
use Rattle.std.proofs.Common.{◌≡◌, ℕ, zero, suc, ◌+◌, ◌*◌, ◌/◌, ◌%◌, ◌^◌, ◌<◌, ◌≤◌, [], ◌∷◌, map, slice_index, slice_index_or, refl, ap, sym, ◌∙◌, arith}
use Rattle.std.specs.{Int.bit_at, List.range_with_len}
use Rattle.std.specs.Int.Bits.{bit_xor, xor_assoc, xor_zero_r}
use Rattle.std.proofs.{lemmas.List.FromFn.get_or-map-range_with_len, lemmas.Nat.shr-shr}
use Rattle.eia1.specs.Polynomial.{multiply, terms, times_power}
use Rattle.eia1.specs.Rows.{four_sum, four_terms, row_of, rows_of, sum_of}
use Rattle.eia1.proofs.FieldLemmas.{multiply-turned, nought, once, times_power-add, xor_zero_l}

-- ---- a row

-- the sixteen sums of four numbers, as the code makes them
pub sixteen_sums : (a b c d : ℕ)
    → 0 ∷ a ∷ b ∷ bit_xor a b ∷ c ∷ bit_xor a c ∷ bit_xor b c ∷ bit_xor (bit_xor a b) c ∷ d ∷ bit_xor a d ∷ bit_xor b d
    ∷ bit_xor (bit_xor a b) d ∷ bit_xor c d ∷ bit_xor (bit_xor a c) d ∷ bit_xor (bit_xor b c) d
    ∷ bit_xor (bit_xor (bit_xor a b) c) d ∷ []
    ≡ map (four_sum a b c d) (range_with_len 0 16)
sixteen_sums a b c d = simp (once, nought, xor_zero_r, xor_zero_l)

pub sums_of_row : (a b c d : ℕ) → b ≡ times_power a 1 → c ≡ times_power a 2 → d ≡ times_power a 3
    → map (four_sum a b c d) (range_with_len 0 16) ≡ row_of a
unfolding row_of
sums_of_row a b c d p q r =
    ap (λ n. map (four_sum a n c d) (range_with_len 0 16)) p
    ∙ ap (λ n. map (four_sum a (times_power a 1) n d) (range_with_len 0 16)) q
    ∙ ap (λ n. map (four_sum a (times_power a 1) (times_power a 2) n) (range_with_len 0 16)) r

-- ---- the rows

-- a term of the product by a bit of four bits
term : (p v j i k : ℕ) → k ≡ 4 * j + i → bit_at (v / 2 ^ (4 * j) % 16) i ≡ bit_at (v / 2 ^ (4 * j)) i
    → bit_at (v / 2 ^ (4 * j) % 16) i * times_power (times_power p (4 * j)) i ≡ bit_at v k * times_power p k
term p v j i k e same =
    ap (λ b. b * times_power (times_power p (4 * j)) i) (same ∙ ap (λ n. n % 2) (shr-shr v (4 * j) i))
    ∙ ap (λ t. bit_at v (4 * j + i) * t) (times_power-add p (4 * j) i)
    ∙ ap (λ m. bit_at v m * times_power p m) (sym e)

five : (t a b c d : ℕ)
    → bit_xor t (bit_xor (bit_xor (bit_xor a b) c) d) ≡ bit_xor (bit_xor (bit_xor (bit_xor t a) b) c) d
five t a b c d =
    sym (xor_assoc t (bit_xor (bit_xor a b) c) d)
    ∙ ap (λ n. bit_xor n d) (sym (xor_assoc t (bit_xor a b) c) ∙ ap (λ n. bit_xor n c) (sym (xor_assoc t a b)))

joined : (t a b c d a' b' c' d' : ℕ) → a ≡ a' → b ≡ b' → c ≡ c' → d ≡ d'
    → bit_xor (bit_xor (bit_xor (bit_xor t a) b) c) d ≡ bit_xor (bit_xor (bit_xor (bit_xor t a') b') c') d'
joined t a b c d a' b' c' d' p q r s = cc

-- the entry of a row at four bits of a number is four terms of the product
four_more : (p v j : ℕ)
    → bit_xor (terms p v (4 * j)) (four_terms (times_power p (4 * j)) (v / 2 ^ (4 * j) % 16)) ≡ terms p v (4 * suc j)
unfolding terms times_power
four_more p v j =
    let n = v / 2 ^ (4 * j) in
    let k = 4 * j in
    let end : suc (suc (suc (suc k))) ≡ 4 * suc j = omega arith in
    let zeroth : bit_at (n % 16) 0 * times_power p k ≡ bit_at v k * times_power p k = term p v j 0 k (omega arith) (omega arith) in
    let first : bit_at (n % 16) 1 * times_power (times_power p k) 1 ≡ bit_at v (suc k) * times_power p (suc k) =
    term p v j 1 (suc k) (omega arith) (omega arith) in
    let second : bit_at (n % 16) 2 * times_power (times_power p k) 2
    ≡ bit_at v (suc (suc k)) * times_power p (suc (suc k)) =
    term p v j 2 (suc (suc k)) (omega arith) (omega arith) in
    let third : bit_at (n % 16) 3 * times_power (times_power p k) 3
    ≡ bit_at v (suc (suc (suc k))) * times_power p (suc (suc (suc k))) =
    term p v j 3 (suc (suc (suc k))) (omega arith) (omega arith) in
    five (terms p v k) _ _ _ _
    ∙ joined _ _ _ _ _ _ _ _ _ zeroth first second third
    ∙ ap (terms p v) end

pub sum_of-terms : (p v j : ℕ) → j ≤ 16 → sum_of (rows_of p) v j ≡ terms p v (4 * j)
unfolding sum_of rows_of row_of terms
sum_of-terms p v zero h = refl
sum_of-terms p v (suc j) h =
    let row : slice_index_or (rows_of p) j [] ≡ row_of (times_power p (4 * j)) =
    get_or-map-range_with_len (λ k. row_of (times_power p (4 * k))) 0 16 j j [] h (omega arith) in
    let n = v / 2 ^ (4 * j) % 16 in
    let entry : slice_index (row_of (times_power p (4 * j))) n ≡ four_terms (times_power p (4 * j)) n =
    get_or-map-range_with_len (four_terms (times_power p (4 * j))) 0 16 n n 0 (omega arith) (omega arith) in
    ap (λ m. bit_xor m (slice_index (slice_index_or (rows_of p) j []) n)) (sum_of-terms p v j (omega arith))
    ∙ ap (λ r. bit_xor (terms p v (4 * j)) (slice_index r n)) row
    ∙ ap (bit_xor (terms p v (4 * j))) entry
    ∙ four_more p v j

-- a product with the point by its table
pub sum_of-rows_of : (p v : ℕ) → v < 2 ^ 64 → p < 2 ^ 64 → sum_of (rows_of p) v 16 ≡ multiply v p
sum_of-rows_of p v h k = sum_of-terms p v 16 (omega arith) ∙ multiply-turned v p h k
