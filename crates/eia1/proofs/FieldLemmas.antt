-- The product in GF(2^64) is commutative.
use Rattle.std.proofs.Common.{◌≡◌, ℕ, zero, suc, ◌+◌, ◌*◌, ◌%◌, ◌^◌, ◌<◌, ◌≤◌, inl, inr, refl, ap, subst, sym, ◌∙◌, arith}
use Rattle.std.specs.Int.{bit_at}
use Rattle.std.specs.Int.Bits.{bit_xor, xor_assoc, xor_self, xor_zero_r}
use Rattle.std.proofs.{Math.Nat.pow-suc, lemmas.Bool.cases_lt}
use Rattle.std.proofs.lemmas.Nat.{mod-pow-add, mod_below, pow_below, pow_pos, xor_block, xor_comm, xor_mod}
use Rattle.std.proofs.lemmas.Nat.Bits.{bit_at-lt, bit_at-pow_other, bit_at_xor}
use Rattle.eia1.specs.Polynomial.{multiply, terms, times_power, times_x}

-- ---- sums, and products with a bit

pub nought : (c : ℕ) → 0 * c ≡ 0
nought c = omega arith

pub once : (c : ℕ) → 1 * c ≡ c
once c = omega arith

pub xor_zero_l : (a : ℕ) → bit_xor 0 a ≡ a
xor_zero_l a = refl

-- what is so of 0 and of 1 is so of a bit
by_bit : (P : ℕ → Type 0) (x : ℕ) → x < 2 → P 0 → P 1 → P x
by_bit P x h none all =
    elim (cases_lt x 1) [
      | inl low ↦ subst P (omega arith) none
      | inr high ↦ subst P (omega arith) all
    ]

-- two sums of two, added place by place
swapped : (a b c d : ℕ) → bit_xor (bit_xor a b) (bit_xor c d) ≡ bit_xor (bit_xor a c) (bit_xor b d)
swapped a b c d =
    xor_assoc a b (bit_xor c d)
    ∙ ap (bit_xor a) (sym (xor_assoc b c d) ∙ ap (λ n. bit_xor n d) (xor_comm b c) ∙ xor_assoc c b d)
    ∙ sym (xor_assoc a c (bit_xor b d))

bit-xor : (x a b : ℕ) → x < 2 → x * bit_xor a b ≡ bit_xor (x * a) (x * b)
bit-xor x a b h =
    by_bit (λ y. y * bit_xor a b ≡ bit_xor (y * a) (y * b)) x h
    (rw (nought, nought, nought) refl) (rw (once, once, once) refl)

sum-times : (x y c : ℕ) → x < 2 → y < 2 → (x + y) % 2 * c ≡ bit_xor (x * c) (y * c)
sum-times x y c h k =
    by_bit (λ m. (m + y) % 2 * c ≡ bit_xor (m * c) (y * c)) x h
    (by_bit (λ n. (0 + n) % 2 * c ≡ bit_xor (0 * c) (n * c)) y k (rw nought refl) (rw (nought, once) refl))
    (by_bit (λ n. (1 + n) % 2 * c ≡ bit_xor (1 * c) (n * c)) y k (rw (once, nought) (sym (xor_zero_r c))) (rw (nought, once) (sym (xor_self c))))

-- ---- times x

double-xor : (a b : ℕ) → bit_xor a b * 2 ≡ bit_xor (a * 2) (b * 2)
double-xor a b =
    let block = xor_block 1 a b 0 0 (omega arith) (omega arith) in
    let one : a * 2 + 0 ≡ a * 2 = omega arith in
    let two : b * 2 + 0 ≡ b * 2 = omega arith in
    let sum : bit_xor a b * 2 + 0 ≡ bit_xor a b * 2 = omega arith in
    sym sum ∙ sym block ∙ rw (one, two) refl

times_x-xor : (a b : ℕ) → times_x (bit_xor a b) ≡ bit_xor (times_x a) (times_x b)
times_x-xor a b =
    let up : bit_xor a b * 2 % 2 ^ 64 ≡ bit_xor (a * 2 % 2 ^ 64) (b * 2 % 2 ^ 64) =
    ap (λ n. n % 2 ^ 64) (double-xor a b) ∙ xor_mod (a * 2) (b * 2) 64 in
    let over : bit_at (bit_xor a b) 63 * 0x1b ≡ bit_xor (bit_at a 63 * 0x1b) (bit_at b 63 * 0x1b) =
    ap (λ n. n * 0x1b) (bit_at_xor a b 63) ∙ sum-times (bit_at a 63) (bit_at b 63) 0x1b (bit_at-lt a 63) (bit_at-lt b 63) in
    ap (λ n. bit_xor n (bit_at (bit_xor a b) 63 * 0x1b)) up
    ∙ ap (bit_xor (bit_xor (a * 2 % 2 ^ 64) (b * 2 % 2 ^ 64))) over
    ∙ swapped (a * 2 % 2 ^ 64) (b * 2 % 2 ^ 64) (bit_at a 63 * 0x1b) (bit_at b 63 * 0x1b)

bit-times_x : (x a : ℕ) → x < 2 → x * times_x a ≡ times_x (x * a)
bit-times_x x a h =
    by_bit (λ y. y * times_x a ≡ times_x (y * a)) x h
    (nought (times_x a) ∙ ap times_x (sym (nought a)))
    (once (times_x a) ∙ ap times_x (sym (once a)))

times_power-xor : (a b i : ℕ) → times_power (bit_xor a b) i ≡ bit_xor (times_power a i) (times_power b i)
unfolding times_power
times_power-xor a b zero = refl
times_power-xor a b (suc i) = ap times_x (times_power-xor a b i) ∙ times_x-xor (times_power a i) (times_power b i)

times_power-times_x : (a i : ℕ) → times_power (times_x a) i ≡ times_x (times_power a i)
unfolding times_power
times_power-times_x a zero = refl
times_power-times_x a (suc i) = ap times_x (times_power-times_x a i)

pub times_power-add : (a i j : ℕ) → times_power (times_power a i) j ≡ times_power a (i + j)
unfolding times_power
times_power-add a i zero =
    let same : i ≡ i + 0 = omega arith in
    ap (times_power a) same
times_power-add a i (suc j) =
    let more : suc (i + j) ≡ i + suc j = omega arith in
    ap times_x (times_power-add a i j) ∙ ap (times_power a) more

times_power-zero : (i : ℕ) → times_power 0 i ≡ 0
unfolding times_power
times_power-zero zero = refl
times_power-zero (suc i) = ap times_x (times_power-zero i)

-- ---- the product, linear in its first factor

terms-zero : (p n : ℕ) → terms 0 p n ≡ 0
unfolding terms
terms-zero p zero = refl
terms-zero p (suc i) =
    let none : bit_at p i * 0 ≡ 0 = omega arith in
    rw (terms-zero p i, times_power-zero i) none

terms-xor : (a b p n : ℕ) → terms (bit_xor a b) p n ≡ bit_xor (terms a p n) (terms b p n)
unfolding terms
terms-xor a b p zero = refl
terms-xor a b p (suc i) =
    rw (terms-xor a b p i, times_power-xor a b i, bit-xor (bit_at p i) (times_power a i) (times_power b i) (bit_at-lt p i))
    (swapped (terms a p i) (terms b p i) (bit_at p i * times_power a i) (bit_at p i * times_power b i))

terms-times_x : (v p n : ℕ) → terms (times_x v) p n ≡ times_x (terms v p n)
unfolding terms
terms-times_x v p zero = refl
terms-times_x v p (suc i) =
    ap (λ n. bit_xor n (bit_at p i * times_power (times_x v) i)) (terms-times_x v p i)
    ∙ ap (λ n. bit_xor (times_x (terms v p i)) (bit_at p i * n)) (times_power-times_x v i)
    ∙ ap (bit_xor (times_x (terms v p i))) (bit-times_x (bit_at p i) (times_power v i) (bit_at-lt p i))
    ∙ sym (times_x-xor (terms v p i) (bit_at p i * times_power v i))

terms-times_power : (v p n i : ℕ) → terms (times_power v i) p n ≡ times_power (terms v p n) i
unfolding times_power
terms-times_power v p n zero = refl
terms-times_power v p n (suc i) = terms-times_x (times_power v i) p n ∙ ap times_x (terms-times_power v p n i)

terms-bit : (x v p n : ℕ) → x < 2 → terms (x * v) p n ≡ x * terms v p n
terms-bit x v p n h =
    by_bit (λ y. terms (y * v) p n ≡ y * terms v p n) x h
    (ap (λ m. terms m p n) (nought v) ∙ terms-zero p n ∙ sym (nought (terms v p n)))
    (ap (λ m. terms m p n) (once v) ∙ sym (once (terms v p n)))

-- ---- the product with 1

power_of_one : (i : ℕ) → i < 64 → times_power 1 i ≡ 2 ^ i
unfolding times_power
power_of_one zero h = refl
power_of_one (suc i) h =
    let above : bit_at (2 ^ i) 63 ≡ 0 = bit_at-pow_other i 63 (λ e. omega arith) in
    let below : 2 ^ suc i < 2 ^ 64 = pow_below (suc i) 64 h in
    let double : 2 ^ i * 2 ≡ 2 ^ suc i = omega (arith, pow-suc 2 i) in
    let whole : 2 ^ suc i % 2 ^ 64 ≡ 2 ^ suc i = omega arith in
    ap times_x (power_of_one i (omega arith))
    ∙ ap (λ n. bit_xor (2 ^ i * 2 % 2 ^ 64) (n * 0x1b)) above
    ∙ xor_zero_r (2 ^ i * 2 % 2 ^ 64)
    ∙ ap (λ n. n % 2 ^ 64) double ∙ whole

terms-one : (p n : ℕ) → n ≤ 64 → terms 1 p n ≡ p % 2 ^ n
unfolding terms
terms-one p zero h = omega arith
terms-one p (suc i) h =
    let b = bit_at p i in
    let r = p % 2 ^ i in
    let low : r < 2 ^ i = mod_below p (2 ^ i) (pow_pos i) in
    let block = xor_block i 0 b r 0 low (omega arith) in
    let first : 0 * 2 ^ i + r ≡ r = omega arith in
    let second : b * 2 ^ i + 0 ≡ b * 2 ^ i = omega arith in
    let sum : bit_xor r (b * 2 ^ i) ≡ b * 2 ^ i + r =
    rw (first, second) at block ∙ ap (λ n. b * 2 ^ i + n) (xor_zero_r r) in
    let next : suc i ≡ 1 + i = omega arith in
    let split : p % 2 ^ suc i ≡ b * 2 ^ i + r = ap (λ n. p % 2 ^ n) next ∙ mod-pow-add p 1 i in
    ap (λ n. bit_xor n (b * times_power 1 i)) (terms-one p i (omega arith))
    ∙ ap (λ n. bit_xor r (b * n)) (power_of_one i (omega arith))
    ∙ sum ∙ sym split

-- ---- the product is commutative

turned : (v p n : ℕ) → p < 2 ^ 64 → n ≤ 64 → terms (terms 1 v n) p 64 ≡ terms p v n
unfolding terms
turned v p zero h k = terms-zero p 64
turned v p (suc i) h k =
    let b = bit_at v i in
    let whole : p % 2 ^ 64 ≡ p = omega arith in
    let one : terms (times_power 1 i) p 64 ≡ times_power p i =
    terms-times_power 1 p 64 i ∙ ap (λ n. times_power n i) (terms-one p 64 (omega arith) ∙ whole) in
    terms-xor (terms 1 v i) (b * times_power 1 i) p 64
    ∙ ap (λ n. bit_xor n (terms (b * times_power 1 i) p 64)) (turned v p i h (omega arith))
    ∙ ap (bit_xor (terms p v i)) (terms-bit b (times_power 1 i) p 64 (bit_at-lt v i) ∙ ap (λ n. b * n) one)

pub multiply-turned : (v p : ℕ) → v < 2 ^ 64 → p < 2 ^ 64 → terms p v 64 ≡ multiply v p
unfolding multiply
multiply-turned v p h k =
    let whole : v % 2 ^ 64 ≡ v = omega arith in
    sym (turned v p 64 k (omega arith)) ∙ ap (λ n. terms n p 64) (terms-one v 64 (omega arith) ∙ whole)
