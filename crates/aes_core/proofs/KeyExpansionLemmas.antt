-- The words of the key expansion, one after another.
use Rattle.std.proofs.Common.{◌≡◌, ℕ, zero, suc, ◌+◌, ◌-◌, ◌/◌, ◌%◌, ◌<◌, ◌≤◌, List, [], ◌∷◌, map, length, take, get_or, set, refl, ap, sym, ◌∙◌, arith, eq-eqb, length-append}
use Rattle.std.specs.{Prelude.bit_xor, List.concat, List.range_with_len, Int.Bits.xor_zero_r}
use Rattle.std.proofs.{lemmas.Bool.ne_eqb, lemmas.List.FromFn.fill_by_all, lemmas.List.FromFn.get_or-map-range_with_len}
use Rattle.std.proofs.lemmas.List.{get_or-take, take-append-le, take_more_set}
use Rattle.aes_core.specs.{Field.multiply, Field.power_of_x, SBox.sub_byte, declared.key_expansion.TheConstants.POWERS_OF_X}
use Rattle.aes_core.specs.KeyExpansion.{first_words, key_expansion, key_mask, next_word}

all_powers : POWERS_OF_X ≡ map power_of_x (range_with_len 0 10)
unfolding multiply
all_powers = refl

pub get_or-POWERS_OF_X : (i : ℕ) → i < 10 → get_or POWERS_OF_X i 0 ≡ power_of_x i
get_or-POWERS_OF_X i h =
    ap (λ xs. get_or xs i 0) all_powers ∙ get_or-map-range_with_len power_of_x 0 10 i i 0 h (omega arith)

-- at a word whose number is a multiple of 4
pub key_mask-fourth : (w : List ℕ) (i : ℕ) → i % 4 ≡ 0
    → key_mask w i ≡ bit_xor (sub_byte (get_or w 1 0)) (power_of_x (i / 4 - 1))
    ∷ sub_byte (get_or w 2 0) ∷ sub_byte (get_or w 3 0) ∷ sub_byte (get_or w 0 0) ∷ []
unfolding key_mask
key_mask-fourth w i h = rw (eq-eqb (i % 4) 0 h) (simp xor_zero_r)

-- at any other word
pub key_mask-other : (w : List ℕ) (i : ℕ) → (i % 4 ≡ 0 → ⊥) → key_mask w i ≡ w
unfolding key_mask
key_mask-other w i h = rw (ne_eqb (i % 4) 0 h) refl

-- a word needs only the words before it
pub next_word-take : (ws : List (List ℕ)) (i : ℕ) → 4 ≤ i → i ≤ length ws → next_word (take i ws) i ≡ next_word ws i
unfolding next_word
next_word-take ws i low high =
    rw (get_or-take i ws (i - 4) [] (omega arith), get_or-take i ws (i - 1) [] (omega arith)) refl

-- one more word
pub first_words_more : (key : List ℕ) (ws : List (List ℕ)) (w : List ℕ) (i : ℕ) → 4 ≤ i → i < length ws
    → take i ws ≡ first_words key (i - 4) → w ≡ next_word ws i
    → take (i + 1) (set ws i w) ≡ first_words key (i + 1 - 4)
unfolding first_words
first_words_more key ws w i low high before e =
    let next : i + 1 - 4 ≡ suc (i - 4) = omega arith in
    let back : 4 + (i - 4) ≡ i = omega arith in
    rw (next, take_more_set ws i w high, ← before, back, next_word-take ws i low (omega arith), e) refl

pub length-first_words : (key : List ℕ) (n : ℕ) → length (first_words key n) ≡ 4 + n
unfolding first_words
length-first_words key zero = refl
length-first_words key (suc n) =
    omega (arith, length-append (first_words key n) (next_word (first_words key n) (4 + n) ∷ []), length-first_words key n)

-- the first four words stay
take-first_words : (key : List ℕ) (n : ℕ) → take 4 (first_words key n) ≡ first_words key 0
unfolding first_words
take-first_words key zero = refl
take-first_words key (suc n) =
    take-append-le 4 (first_words key n) _ (omega (arith, length-first_words key n)) ∙ take-first_words key n

-- the first four words, joined, are the key
pub concat-key_expansion : (key : List ℕ) → length key ≡ 16 → concat (take 4 (key_expansion key)) ≡ key
unfolding key_expansion first_words
concat-key_expansion key long =
    ap concat (take-first_words key 40) ∙ sym (fill_by_all (λ k. get_or key k 0) key 16 0 long (λ k h. refl))
