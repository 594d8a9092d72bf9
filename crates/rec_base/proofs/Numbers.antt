-- Laws of numbers as octets.
use Rattle.std.proofs.Common.{◌≡◌, ℕ, zero, suc, ◌+◌, ◌*◌, ◌/◌, ◌%◌, ◌^◌, ◌<◌, ◌≤◌, List, [], ◌∷◌, length, get_or, take, fold, append-nil, refl, ap, sym, ◌∙◌, arith}
use Rattle.std.specs.Int.{w128, byte_at, bytes_high_first, from_be_bytes}
use Rattle.std.proofs.Math.Nat.{div-one, pow-suc}
use Rattle.byteorder.specs.Endian.{big_from, big_number}
use Rattle.byteorder.specs.Numbers.{big_from-cons, big_from-lt, big_number-reads_back}
use Rattle.rec_base.specs.BigEndian.{number_of, octets_of}

-- a list of octets
abbrev pub AreOctets : List ℕ → Type 0
AreOctets octets = (i : ℕ) → get_or octets i 0 < 256

pub number_of-one : (octets : List ℕ) → 1 ≤ length octets → number_of (take 1 octets) ≡ get_or octets 0 0
unfolding number_of
number_of-one [] h = absurd (omega arith)
number_of-one (a ∷ rest) h = omega arith

pub number_of-two : (octets : List ℕ) → 2 ≤ length octets → number_of (take 2 octets) ≡ big_number 2 octets
unfolding number_of
number_of-two [] h = absurd (omega arith)
number_of-two (a ∷ []) h = absurd (omega arith)
number_of-two (a ∷ b ∷ rest) h = omega arith

pub number_of-four : (octets : List ℕ) → 4 ≤ length octets → number_of (take 4 octets) ≡ big_number 4 octets
unfolding number_of
number_of-four [] h = absurd (omega arith)
number_of-four (a ∷ []) h = absurd (omega arith)
number_of-four (a ∷ b ∷ []) h = absurd (omega arith)
number_of-four (a ∷ b ∷ c ∷ []) h = absurd (omega arith)
number_of-four (a ∷ b ∷ c ∷ d ∷ rest) h = omega arith

-- two lists of octets with one length and one number, read from two numbers on, are equal
same_from_fold : (m n : ℕ) (xs ys : List ℕ) → length xs ≡ length ys → AreOctets xs → AreOctets ys
    → fold (λ k octet. 256 * k + octet) m xs ≡ fold (λ k octet. 256 * k + octet) n ys → (m ≡ n) × (xs ≡ ys)
same_from_fold m n [] [] l p q e = (e, refl)
same_from_fold m n [] (y ∷ ys) l p q e = absurd (omega arith)
same_from_fold m n (x ∷ xs) [] l p q e = absurd (omega arith)
same_from_fold m n (x ∷ xs) (y ∷ ys) l p q e =
    let rest = same_from_fold (256 * m + x) (256 * n + y) xs ys (omega arith) (λ i. p (suc i)) (λ i. q (suc i)) e in
    let first = rest.0 in
    let tail = rest.1 in
    let low = p 0 in
    let low' = q 0 in
    let same : x ≡ y = omega arith in
    (omega arith, cc)

-- two octet strings of one width with one number are equal
pub same_from_number_of : (xs ys : List ℕ) → length xs ≡ length ys → AreOctets xs → AreOctets ys
    → number_of xs ≡ number_of ys → xs ≡ ys
unfolding number_of
same_from_number_of xs ys l p q e = (same_from_fold 0 0 xs ys l p q e).1

pub length-octets_of : (width n : ℕ) → length (octets_of width n) ≡ width
unfolding octets_of
length-octets_of zero n = refl
length-octets_of (suc width) n = ap suc (length-octets_of width n)

byte_at-is : (place n : ℕ) → byte_at place n ≡ n / 256 ^ place % 256
byte_at-is zero n = ap (λ m. m % 256) (sym (div-one n))
byte_at-is (suc place) n = refl

-- each is an octet
pub octets_of-lt : (width n : ℕ) → AreOctets (octets_of width n)
unfolding octets_of
octets_of-lt zero n i = omega arith
octets_of-lt (suc width) n zero = omega arith
octets_of-lt (suc width) n (suc i) = octets_of-lt width n i

-- the same octets as `to_be_bytes` gives
pub octets_of-is : (width n : ℕ) → octets_of width n ≡ bytes_high_first width n
unfolding octets_of
octets_of-is zero n = refl
octets_of-is (suc width) n = rw (byte_at-is width n, octets_of-is width n) refl

-- the number in octets that stand behind a number
fold_is : (m : ℕ) (octets : List ℕ)
    → fold (λ k octet. 256 * k + octet) m octets ≡ m * 256 ^ length octets + big_from 0 (length octets) octets
fold_is m [] = omega arith
fold_is m (x ∷ xs) =
    let rest = fold_is (256 * m + x) xs in
    let moved = big_from-cons 0 (length xs) x xs in
    rw (rest, moved, pow-suc 256 (length xs)) (omega arith)

-- `number_of` is the number that `byteorder` reads
pub number_of-is : (octets : List ℕ) → number_of octets ≡ big_number (length octets) octets
unfolding number_of
number_of-is octets = omega (arith, fold_is 0 octets)

-- `number_of` is the number that `u128::from_be_bytes` reads
pub number_of-sixteen : (octets : List ℕ) → length octets ≡ 16 → number_of octets ≡ from_be_bytes w128 octets
number_of-sixteen octets h =
    let sum : from_be_bytes w128 octets ≡ big_number 16 octets = omega arith in
    number_of-is octets ∙ ap (λ n. big_number n octets) h ∙ sym sum

-- no number reaches 256 to the power of its width
pub number_of-lt : (octets : List ℕ) → AreOctets octets → number_of octets < 256 ^ length octets
number_of-lt octets fit = rw number_of-is (big_from-lt 0 (length octets) octets fit)

-- what is written reads as the number
pub number_of-octets_of : (width n : ℕ) → n < 256 ^ width → number_of (octets_of width n) ≡ n
number_of-octets_of width n h =
    let back = big_number-reads_back width n [] h in
    rw (number_of-is, length-octets_of, octets_of-is, ← append-nil (bytes_high_first width n)) back

-- what is written of the number that octets read as is those octets
pub octets_of-number_of : (octets : List ℕ) → AreOctets octets → octets_of (length octets) (number_of octets) ≡ octets
octets_of-number_of octets fit =
    same_from_number_of _ octets (length-octets_of (length octets) (number_of octets)) (octets_of-lt _ _) fit
    (number_of-octets_of _ _ (number_of-lt octets fit))
