-- The number of a port is found wherever its digits stand, and what is not found is no port's.
use Rattle.std.proofs.Common.{◌≡◌, ◌≢◌, ℕ, suc, ◌^◌, ◌<◌, ◌≤◌, List, [], ◌∷◌, ◌++◌, All, length, codes, Result, Ok, Err, refl, ◌∙◌, sym, subst, append_assoc, arith}
use Rattle.std.proofs.lemmas.Fmt.{parse-decimal, IsAscii-decimal, decimal_is_IsNumeral, length-decimal-le}
use Rattle.std.proofs.lemmas.Str.{IsUtf8-from_ascii}
use Rattle.std.specs.{Fmt.decimal, Str.IsUtf8, Str.Parse.AllDigits, Str.Parse.ParsesUnsigned, Char.digit_value}
use Rattle.edge_io.specs.PortLine.{BeginsNoPort}

-- digits are a text
pub decimal_text : (n : ℕ) (bs : List ℕ) → n < 2 ^ 16 → bs ≡ decimal n → IsUtf8 bs
decimal_text n bs small e =
    let P : List ℕ → Type 0 = λ xs. IsUtf8 xs in
    subst P (sym e) (IsUtf8-from_ascii (decimal n) (IsAscii-decimal n (omega (arith, small))))

-- what is read of them is no error
pub decimal_reads : {E : Type 0} (n : ℕ) (bs : List ℕ) (e : E) → n < 2 ^ 16 → bs ≡ decimal n → ParsesUnsigned 16 10 bs (Err e) → ⊥
decimal_reads {E} n bs e small same parsed =
    let answer : Result ℕ E = Err e in
    let is : answer ≡ Ok n = parse-decimal 16 n bs answer small (omega (arith, small)) same parsed in cc

-- and no other number
pub decimal_number : {E : Type 0} (n k : ℕ) (bs : List ℕ) (answer : Result ℕ E)
    → answer ≡ Ok k
    → n < 2 ^ 16
    → bs ≡ decimal n
    → ParsesUnsigned 16 10 bs answer
    → k ≡ n
decimal_number {E} n k bs answer given small same parsed =
    let is : answer ≡ Ok n = parse-decimal 16 n bs answer small (omega (arith, small)) same parsed in cc

-- digits hold no LF
not_digit : (c : ℕ) → digit_value c < 10 → c ≡ 10 → ⊥
not_digit c digit e =
    let P : ℕ → Type 0 = λ x. digit_value x < 10 in
    let below : 36 < 10 = subst P e digit in absurd (omega (arith, below))

-- octets without LF and digits, each before its first LF, are the same
before_end : (xs ys a b : List ℕ) → All (λ x. x ≢ 10) xs → AllDigits 10 ys → xs ++ (10 ∷ a) ≡ ys ++ (10 ∷ b) → xs ≡ ys
before_end [] [] a b no_end digits e = refl
before_end [] (y ∷ ys) a b no_end digits e =
    let first : y ≡ 10 = cc in absurd (not_digit y digits.0 first)
before_end (x ∷ xs) [] a b no_end digits e =
    let first : x ≡ 10 = cc in absurd (no_end 0 0 (omega arith) first)
before_end (x ∷ xs) (y ∷ ys) a b no_end digits e =
    let first : x ≡ y = cc in
    let rest : xs ++ (10 ∷ a) ≡ ys ++ (10 ∷ b) = cc in
    let same : xs ≡ ys = before_end xs ys a b (λ k d short. no_end (suc k) d (omega (arith, short))) digits.1 rest in
    cc

-- more octets than there are digits, none of them LF, begin no line of these digits
beyond_end : (xs ys more b : List ℕ) → All (λ x. x ≢ 10) xs → length ys < length xs → xs ++ more ≡ ys ++ (10 ∷ b) → ⊥
beyond_end [] ys more b no_end longer e = absurd (omega (arith, longer))
beyond_end (x ∷ xs) [] more b no_end longer e =
    let first : x ≡ 10 = cc in absurd (no_end 0 0 (omega arith) first)
beyond_end (x ∷ xs) (y ∷ ys) more b no_end longer e =
    let rest : xs ++ more ≡ ys ++ (10 ∷ b) = cc in
    beyond_end xs ys more b (λ k d short. no_end (suc k) d (omega (arith, short))) (omega (arith, longer)) rest

-- octets before an LF that are the digits of no port begin no port's line
pub no_port : (xs : List ℕ) → All (λ x. x ≢ 10) xs → ((n : ℕ) → n < 2 ^ 16 → xs ≢ decimal n) → BeginsNoPort (xs ++ codes "\n")
no_port xs no_end none n more small e =
    let digits : AllDigits 10 (decimal n) = (decimal_is_IsNumeral n (omega (arith, small))).0.1 in
    none n small (before_end xs (decimal n) more [] no_end digits (sym (append_assoc xs (codes "\n") more) ∙ e))

-- and so do six octets of which none is an LF
pub no_line : (xs : List ℕ) → All (λ x. x ≢ 10) xs → length xs ≡ 6 → BeginsNoPort xs
no_line xs no_end six n more small e =
    let few : length (decimal n) ≤ 5 = length-decimal-le 5 n (omega arith) (omega (arith, small)) (omega (arith, small)) in
    beyond_end xs (decimal n) more [] no_end (omega (arith, few, six)) e
