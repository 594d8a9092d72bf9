-- Sums of windows: over words, over pieces, and behind the end of a text.
use Rattle.std.proofs.Common.{◌≡◌, ℕ, zero, suc, ◌+◌, ◌-◌, ◌*◌, ◌/◌, ◌%◌, ◌^◌, ◌<◌, ◌≤◌, List, [], ◌∷◌, length, map, slice_index, inl, inr, refl, ap, sym, ◌∙◌, arith}
use Rattle.std.specs.Int.{w32, bit_at, from_be_bytes}
use Rattle.std.specs.Int.Bits.{bit_xor, xor_assoc, xor_zero_r}
use Rattle.std.specs.List.{range_with_len}
use Rattle.std.proofs.{lemmas.Bool.cases_lt, lemmas.List.get_or_past, lemmas.List.FromFn.get_or-map-range_with_len}
use Rattle.std.proofs.lemmas.Nat.Bits.{bit_at-zero, bit_at_cat_high, bit_at_cat_low}
use Rattle.rec_base.specs.BigEndian.{number_of}
use Rattle.eia3.specs.Eia3.{mac_number, sums, text_bit, window}
use Rattle.eia3.specs.Words.{number_in, word_sum}

-- ---- words of a text

pub number_of_four : (a b c d : ℕ) → from_be_bytes w32 (a ∷ b ∷ c ∷ d ∷ []) ≡ number_of (a ∷ b ∷ c ∷ d ∷ [])
unfolding number_of
number_of_four a b c d = omega arith

pub number_in-is : (text : List ℕ) (i : ℕ)
    → number_of (slice_index text (4 * i) ∷ slice_index text (4 * i + 1) ∷ slice_index text (4 * i + 2) ∷ slice_index text (4 * i + 3) ∷ []) ≡ number_in text i
unfolding number_in
number_in-is text i =
    let first : 4 * i ≡ 4 * i + 0 = omega arith in
    ap (λ k. number_of (slice_index text k ∷ slice_index text (4 * i + 1) ∷ slice_index text (4 * i + 2) ∷ slice_index text (4 * i + 3) ∷ [])) first

-- the octets of a text
abbrev pub AreOctets : List ℕ → Type 0
AreOctets text = (k : ℕ) → slice_index text k < 256

-- bit k of four octets, the highest first
bit_of_four : (a b c d k : ℕ) → b < 256 → c < 256 → d < 256 → k < 32
    → bit_at (number_of (a ∷ b ∷ c ∷ d ∷ [])) (31 - k) ≡ bit_at (slice_index (a ∷ b ∷ c ∷ d ∷ []) (k / 8)) (7 - k % 8)
unfolding number_of
bit_of_four a b c d k p q r h =
    let octets = a ∷ b ∷ c ∷ d ∷ [] in
    let third = c * 2 ^ 8 + d in
    let second = b * 2 ^ 16 + third in
    let number : number_of octets ≡ a * 2 ^ 24 + second = omega arith in
    let there = λ (x j : ℕ) (e : slice_index octets j ≡ x) (place : j ≡ k / 8) (i : ℕ) (bit : i ≡ 7 - k % 8).
    ap (bit_at x) bit ∙ ap (λ y. bit_at y (7 - k % 8)) (sym e) ∙ ap (λ n. bit_at (slice_index octets n) (7 - k % 8)) place in
    ap (λ n. bit_at n (31 - k)) number
    ∙ elim (cases_lt k 8) [
      | inl in_a ↦ bit_at_cat_high a 24 second (31 - k) (omega arith) (omega arith)
          ∙ there a 0 refl (omega arith) (31 - k - 24) (omega arith)
      | inr past_a ↦ bit_at_cat_low a 24 second (31 - k) (omega arith)
          ∙ elim (cases_lt k 16) [
            | inl in_b ↦ bit_at_cat_high b 16 third (31 - k) (omega arith) (omega arith)
                ∙ there b 1 refl (omega arith) (31 - k - 16) (omega arith)
            | inr past_b ↦ bit_at_cat_low b 16 third (31 - k) (omega arith)
                ∙ elim (cases_lt k 24) [
                  | inl in_c ↦ bit_at_cat_high c 8 d (31 - k) (omega arith) (omega arith)
                      ∙ there c 2 refl (omega arith) (31 - k - 8) (omega arith)
                  | inr past_c ↦ bit_at_cat_low c 8 d (31 - k) (omega arith)
                      ∙ there d 3 refl (omega arith) (31 - k) (omega arith)
                ]
          ]
    ]

-- bit k of a word of a text
word_bit : (text : List ℕ) (i k : ℕ) → AreOctets text → k < 32
    → text_bit text (32 * i + k) ≡ bit_at (number_in text i) (31 - k)
unfolding number_in text_bit
word_bit text i k fit h =
    let octets = map (λ j. slice_index text (4 * i + j)) (range_with_len 0 4) in
    let place : (32 * i + k) / 8 ≡ 4 * i + k / 8 = omega arith in
    let bit : (32 * i + k) % 8 ≡ k % 8 = omega arith in
    let octet : slice_index text ((32 * i + k) / 8) ≡ slice_index octets (k / 8) =
    ap (slice_index text) place
    ∙ sym (get_or-map-range_with_len (λ j. slice_index text (4 * i + j)) 0 4 (k / 8) (k / 8) 0 (omega arith) (omega arith)) in
    ap (λ o. bit_at o (7 - (32 * i + k) % 8)) octet
    ∙ ap (λ b. bit_at (slice_index octets (k / 8)) (7 - b)) bit
    ∙ sym (bit_of_four (slice_index text (4 * i + 0)) (slice_index text (4 * i + 1)) (slice_index text (4 * i + 2))
    (slice_index text (4 * i + 3)) k (fit _) (fit _) (fit _) h)

-- the window at a bit of a word
word_window : (z : ℕ → ℕ) (i k : ℕ) → k < 32
    → window z (32 * i + k) ≡ (z i * 2 ^ 32 + z (i + 1)) / 2 ^ (32 - k) % 2 ^ 32
unfolding window
word_window z i k h =
    let word : (32 * i + k) / 32 ≡ i = omega arith in
    let place : (32 * i + k) % 32 ≡ k = omega arith in
    rw (word, place) refl

-- the sum up to a bit of a word
sums_within : (z : ℕ → ℕ) (text : List ℕ) (i k : ℕ) → AreOctets text → k ≤ 32
    → sums z text (32 * i + k) ≡ bit_xor (sums z text (32 * i)) (word_sum (number_in text i) (z i) (z (i + 1)) k)
unfolding sums word_sum
sums_within z text i zero fit h =
    let same : 32 * i + 0 ≡ 32 * i = omega arith in
    ap (sums z text) same ∙ sym (xor_zero_r (sums z text (32 * i)))
sums_within z text i (suc k) fit h =
    let next : 32 * i + suc k ≡ suc (32 * i + k) = omega arith in
    let so_far = word_sum (number_in text i) (z i) (z (i + 1)) k in
    ap (sums z text) next
    ∙ ap (λ n. bit_xor n (text_bit text (32 * i + k) * window z (32 * i + k))) (sums_within z text i k fit (omega arith))
    ∙ ap (λ n. bit_xor (bit_xor (sums z text (32 * i)) so_far) (n * window z (32 * i + k))) (word_bit text i k fit (omega arith))
    ∙ ap (λ n. bit_xor (bit_xor (sums z text (32 * i)) so_far) (bit_at (number_in text i) (31 - k) * n)) (word_window z i k (omega arith))
    ∙ xor_assoc (sums z text (32 * i)) so_far _

-- the sum over one word more
pub sums_word : (z : ℕ → ℕ) (text : List ℕ) (i : ℕ) → AreOctets text
    → bit_xor (sums z text (32 * i)) (word_sum (number_in text i) (z i) (z (i + 1)) 32) ≡ sums z text (32 * (i + 1))
sums_word z text i fit =
    let next : 32 * i + 32 ≡ 32 * (i + 1) = omega arith in
    sym (sums_within z text i 32 fit (omega arith)) ∙ ap (sums z text) next

-- ---- behind the end

bit_past : (text : List ℕ) (i : ℕ) → 8 * length text ≤ i → text_bit text i ≡ 0
unfolding text_bit
bit_past text i h =
    let past : length text ≤ i / 8 = omega arith in
    ap (λ octet. bit_at octet (7 - i % 8)) (get_or_past text (i / 8) 0 past) ∙ bit_at-zero (7 - i % 8)

sums_behind : (z : ℕ → ℕ) (text : List ℕ) (k : ℕ) → sums z text (8 * length text + k) ≡ sums z text (8 * length text)
unfolding sums
sums_behind z text zero =
    let same : 8 * length text + 0 ≡ 8 * length text = omega arith in
    ap (sums z text) same
sums_behind z text (suc k) =
    let i = 8 * length text + k in
    let next : 8 * length text + suc k ≡ suc i = omega arith in
    let none : 0 * window z i ≡ 0 = omega arith in
    ap (sums z text) next
    ∙ ap (λ n. bit_xor (sums z text i) (n * window z i)) (bit_past text i (omega arith))
    ∙ ap (bit_xor (sums z text i)) none ∙ xor_zero_r (sums z text i) ∙ sums_behind z text k

-- the bits behind the end add nothing
pub sums_past : (z : ℕ → ℕ) (text : List ℕ) (n : ℕ) → 8 * length text ≤ n → sums z text n ≡ sums z text (8 * length text)
sums_past z text n h =
    let split : n ≡ 8 * length text + (n - 8 * length text) = omega arith in
    ap (sums z text) split ∙ sums_behind z text (n - 8 * length text)

-- ---- pieces

-- a window of the words from one on
pub window_from : (z : ℕ → ℕ) (m k : ℕ) → window z (32 * m + k) ≡ window (λ i. z (m + i)) k
unfolding window
window_from z m k =
    let word : (32 * m + k) / 32 ≡ m + k / 32 = omega arith in
    let place : (32 * m + k) % 32 ≡ k % 32 = omega arith in
    let behind : m + k / 32 + 1 ≡ m + (k / 32 + 1) = omega arith in
    rw (word, place, behind) refl

-- the sum over a text is that over its first words, and that over the piece behind them
pub sums_piece : (z : ℕ → ℕ) (text piece : List ℕ) (m k : ℕ)
    → ((j : ℕ) → 8 * j < k → slice_index piece j ≡ slice_index text (4 * m + j))
    → bit_xor (sums z text (32 * m)) (sums (λ i. z (m + i)) piece k) ≡ sums z text (32 * m + k)
unfolding sums text_bit
sums_piece z text piece m zero same =
    let none : 32 * m ≡ 32 * m + 0 = omega arith in
    xor_zero_r (sums z text (32 * m)) ∙ ap (sums z text) none
sums_piece z text piece m (suc k) same =
    let next : suc (32 * m + k) ≡ 32 * m + suc k = omega arith in
    let place : 4 * m + k / 8 ≡ (32 * m + k) / 8 = omega arith in
    let bit : k % 8 ≡ (32 * m + k) % 8 = omega arith in
    let octet : slice_index piece (k / 8) ≡ slice_index text ((32 * m + k) / 8) =
    same (k / 8) (omega arith) ∙ ap (slice_index text) place in
    let here : text_bit piece k ≡ text_bit text (32 * m + k) =
    ap (λ o. bit_at o (7 - k % 8)) octet ∙ ap (λ b. bit_at (slice_index text ((32 * m + k) / 8)) (7 - b)) bit in
    sym (xor_assoc (sums z text (32 * m)) (sums (λ i. z (m + i)) piece k) (text_bit piece k * window (λ i. z (m + i)) k))
    ∙ ap (λ n. bit_xor n (text_bit piece k * window (λ i. z (m + i)) k)) (sums_piece z text piece m k (λ j l. same j (omega arith)))
    ∙ ap (λ b. bit_xor (sums z text (32 * m + k)) (b * window (λ i. z (m + i)) k)) here
    ∙ ap (λ w. bit_xor (sums z text (32 * m + k)) (text_bit text (32 * m + k) * w)) (sym (window_from z m k))
    ∙ ap (sums z text) next

-- the MAC of a text is that of the piece behind its first words, with the sum over them
pub mac_piece : (z : ℕ → ℕ) (text piece : List ℕ) (m k : ℕ)
    → ((j : ℕ) → 8 * j < k → slice_index piece j ≡ slice_index text (4 * m + j))
    → bit_xor (sums z text (32 * m)) (mac_number (λ i. z (m + i)) piece k) ≡ mac_number z text (32 * m + k)
mac_piece z text piece m k same =
    let y : ℕ → ℕ = λ i. z (m + i) in
    let s = sums z text (32 * m) in
    let last : m + ((k + 31) / 32 + 1) ≡ (32 * m + k + 31) / 32 + 1 = omega arith in
    sym (xor_assoc s (bit_xor (sums y piece k) (window y k)) (y ((k + 31) / 32 + 1)))
    ∙ ap (λ n. bit_xor n (y ((k + 31) / 32 + 1))) (sym (xor_assoc s (sums y piece k) (window y k)))
    ∙ ap (λ n. bit_xor (bit_xor n (window y k)) (y ((k + 31) / 32 + 1))) (sums_piece z text piece m k same)
    ∙ ap (λ n. bit_xor (bit_xor (sums z text (32 * m + k)) n) (y ((k + 31) / 32 + 1))) (sym (window_from z m k))
    ∙ ap (λ i. bit_xor (bit_xor (sums z text (32 * m + k)) (window z (32 * m + k))) (z i)) last

-- ---- what the code adds

pub three_sums : (a b c a' b' c' : ℕ) → a ≡ a' → b ≡ b' → c ≡ c'
    → bit_xor (bit_xor a b) c ≡ bit_xor (bit_xor a' b') c'
three_sums a b c a' b' c' p q r = cc

-- the window at a whole number of octets
pub window_at_octet : (z : ℕ → ℕ) (octets high low : ℕ) → high ≡ z (octets / 4) → low ≡ z (octets / 4 + 1)
    → (high * 2 ^ 32 + low) / 2 ^ (32 - 8 * (octets % 4)) % 2 ^ 32 ≡ window z (8 * octets)
unfolding window
window_at_octet z octets high low p q =
    let word : octets / 4 ≡ 8 * octets / 32 = omega arith in
    let place : 8 * (octets % 4) ≡ 8 * octets % 32 = omega arith in
    ap (λ n. (n * 2 ^ 32 + low) / 2 ^ (32 - 8 * (octets % 4)) % 2 ^ 32) (p ∙ ap z word)
    ∙ ap (λ n. (z (8 * octets / 32) * 2 ^ 32 + n) / 2 ^ (32 - 8 * (octets % 4)) % 2 ^ 32) (q ∙ ap (λ i. z (i + 1)) word)
    ∙ ap (λ n. (z (8 * octets / 32) * 2 ^ 32 + z (8 * octets / 32 + 1)) / 2 ^ (32 - n) % 2 ^ 32) place
