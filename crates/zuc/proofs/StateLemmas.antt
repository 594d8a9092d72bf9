-- The ring of stages of the code against the state, and the sum modulo 2^31 - 1.
use Rattle.std.proofs.Common.{◌≡◌, ℕ, zero, suc, slice_index, ◌+◌, ◌*◌, ◌%◌, ◌<◌, ◌≤◌, List, [], ◌∷◌, ◌++◌, length, get_or, set, take, drop, append-nil, append_assoc, inl, inr, length-set, ap, eqb, false, refl, sym, ◌∙◌, arith}
use Rattle.std.proofs.{lemmas.Bool.Decides.nat_tests, lemmas.Bool.cases_lt, lemmas.Nat.mod-mul-add, lemmas.List.FromFn.get_or-map-range_with_len}
use Rattle.std.proofs.lemmas.List.{drop-set-lt, drop_all, drop_more, take_all, take_more_set}
use Rattle.zuc.specs.State.{State, after, keystream_word, next, sixteen_words, word, never_zero, prime}

abbrev state_of : List ℕ → ℕ → ℕ → State
state_of xs a b = record { stages = xs; r1 = a; r2 = b }

pub same_state : (xs ys : List ℕ) (a b c d : ℕ) → xs ≡ ys → a ≡ c → b ≡ d → state_of xs a b ≡ state_of ys c d
same_state xs ys a b c d p q r = cc

-- the ring that begins at the place behind a place
turned : (xs : List ℕ) (place : ℕ) → place < 16 → length xs ≡ 16
    → drop ((place + 1) % 16) xs ++ take ((place + 1) % 16) xs ≡ drop (place + 1) xs ++ take (place + 1) xs
turned xs place h long =
    elim (cases_lt (place + 1) 16) [
      | inl low ↦ ap (λ k. drop k xs ++ take k xs) (omega arith)
      | inr high ↦ let end : place + 1 ≡ 16 = omega arith in
          rw (end, drop_all 16 xs (omega arith), take_all 16 xs (omega arith), append-nil) refl
    ]

-- a write at the first stage's place, which then is the last one's
pub shifted : (xs : List ℕ) (place v : ℕ) → place < 16 → length xs ≡ 16
    → drop ((place + 1) % 16) (set xs place v) ++ take ((place + 1) % 16) (set xs place v) ≡ drop 1 (drop place xs ++ take place xs) ++ v ∷ []
shifted xs place v h long =
    let first : drop place xs ≡ get_or xs place 0 ∷ drop (place + 1) xs = drop_more xs place 0 (omega arith) in
    let behind : drop (place + 1) (set xs place v) ≡ drop (place + 1) xs = drop-set-lt (place + 1) xs place v (omega arith) in
    turned (set xs place v) place h (length-set xs place v ∙ long)
    ∙ rw (behind, take_more_set xs place v (omega arith), first) (sym (append_assoc (drop (place + 1) xs) (take place xs) (v ∷ [])))

-- a number that is a multiple of the prime and a rest of 1 to the prime stands for the rest
pub never_zero-rest : (n k rest : ℕ) → n ≡ k * prime + rest → 0 < rest → rest ≤ prime → never_zero n ≡ rest
unfolding never_zero
never_zero-rest n k rest e low high =
    elim (cases_lt rest prime) [
      | inl below ↦ let left : n % prime ≡ rest = ap (λ m. m % prime) e ∙ mod-mul-add k prime rest below in
          let test : eqb rest 0 ≡ false = grind (arith, nat_tests) in
          rw (left, test) refl
      | inr above ↦ let whole : rest ≡ prime = omega arith in
          let more : n ≡ (k + 1) * prime + 0 = omega arith in
          let left : n % prime ≡ 0 = ap (λ m. m % prime) more ∙ mod-mul-add (k + 1) prime 0 (omega arith) in
          rw left (sym whole)
    ]

pub never_zero-zero : (n : ℕ) → n ≡ 0 → never_zero n ≡ prime
unfolding never_zero
never_zero-zero n e = rw e refl

-- ---- the keystream

-- m clocks, and n more
pub after-after : (s : State) (m n : ℕ) → after (after s m) n ≡ after s (m + n)
unfolding after
after-after s m zero = ap (after s) (omega arith)
after-after s m (suc n) =
    let more : suc (m + n) ≡ m + suc n = omega arith in
    ap next (after-after s m n) ∙ ap (after s) more

-- one of the sixteen words behind n others
pub sixteen_words-at : (s t : State) (words : List ℕ) (n i : ℕ) → t ≡ after s n → words ≡ sixteen_words t → i < 16
    → slice_index words i ≡ keystream_word s (n + i)
unfolding keystream_word
sixteen_words-at s t words n i now e h =
    let place : n + (i + 1) ≡ n + i + 1 = omega arith in
    ap (λ ws. slice_index ws i) e
    ∙ get_or-map-range_with_len (keystream_word t) 0 16 i i 0 h (omega arith)
    ∙ ap (λ u. word (after u (i + 1))) now
    ∙ ap word (after-after s n (i + 1) ∙ ap (after s) place)
