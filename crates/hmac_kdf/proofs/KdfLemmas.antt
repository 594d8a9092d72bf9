-- The string S of an input determines the input.
use Rattle.std.proofs.Common.{◌≡◌, refl, ℕ, ◌<◌, ◌≤◌, ◌^◌, ◌/◌, ◌%◌, Bool, true, false, List, ◌∷◌, length, take, drop, get_or, nat_lt, cond, sym, ap, ◌∙◌, arith, length-append}
use Rattle.std.proofs.{lemmas.Bool.ltb-false, lemmas.List.append_cancel_right, lemmas.Nat.from_be_bytes-to_be_bytes_2, lemmas.Nat.from_be_bytes-to_be_bytes_4}
use Rattle.std.specs.Int.{w16, w32, to_be_bytes, from_be_bytes, bytes_high_first}
use Rattle.hmac_kdf.specs.declared.input.KdfInput.{KdfInput}
use Rattle.hmac_kdf.specs.declared.input.KdfInput.TheVariants.{Kenb, Nh, Star, Alg}
use Rattle.hmac_kdf.specs.Kdf.{parameter, greatest_earfcn, earfcn_octets, kdf_string, IsKdfInput}

-- two numbers of four octets with the same octets
four_octets : (m n : ℕ) → m < 2 ^ 32 → n < 2 ^ 32 → to_be_bytes w32 m ≡ to_be_bytes w32 n → m ≡ n
four_octets m n fits fits' e =
    sym (from_be_bytes-to_be_bytes_4 m fits) ∙ ap (from_be_bytes w32) e ∙ from_be_bytes-to_be_bytes_4 n fits'

-- two numbers of two octets with the same octets
two_octets : (m n : ℕ) → m < 2 ^ 16 → n < 2 ^ 16 → to_be_bytes w16 m ≡ to_be_bytes w16 n → m ≡ n
two_octets m n fits fits' e =
    sym (from_be_bytes-to_be_bytes_2 m fits) ∙ ap (from_be_bytes w16) e ∙ from_be_bytes-to_be_bytes_2 n fits'

-- two numbers of three octets with the same octets
three_octets : (m n : ℕ) → m ≤ greatest_earfcn → n ≤ greatest_earfcn → bytes_high_first 3 m ≡ bytes_high_first 3 n → m ≡ n
three_octets m n fits fits' e =
    let none : m / 16777216 % 256 ≡ n / 16777216 % 256 = omega (arith, fits, fits') in
    four_octets m n (omega (arith, fits)) (omega (arith, fits')) (λ k. none k ∷ e k)

-- two EARFCNs with the same octets, each of two or three
earfcn_by : (b c : Bool) (m n : ℕ) → nat_lt 65535 m ≡ b → nat_lt 65535 n ≡ c → m ≤ greatest_earfcn → n ≤ greatest_earfcn
    → cond b (bytes_high_first 3 m) (bytes_high_first 2 m) ≡ cond c (bytes_high_first 3 n) (bytes_high_first 2 n) → m ≡ n
earfcn_by true true m n _ _ fits fits' e = three_octets m n fits fits' e
earfcn_by false false m n low low' _ _ e = two_octets m n (omega (arith, ltb-false 65535 m low)) (omega (arith, ltb-false 65535 n low')) e
earfcn_by true false m n _ _ _ _ e = let longs = ap length e in absurd (omega (arith, longs))
earfcn_by false true m n _ _ _ _ e = let longs = ap length e in absurd (omega (arith, longs))

one_earfcn : (m n : ℕ) → m ≤ greatest_earfcn → n ≤ greatest_earfcn → earfcn_octets m ≡ earfcn_octets n → m ≡ n
one_earfcn m n = earfcn_by (nat_lt 65535 m) (nat_lt 65535 n) m n refl refl

-- two parameters of any length with the same octets
one_parameter : (s t : List ℕ) → parameter s ≡ parameter t → s ≡ t
one_parameter s t e =
    let longs = ap length e in
    let same : length s ≡ length t = omega (arith, length-append s (to_be_bytes w16 (length s)), length-append t (to_be_bytes w16 (length t)), longs) in
    append_cancel_right s t (to_be_bytes w16 (length t)) (rw same at e)

pub one_input : (a b : KdfInput) → IsKdfInput a → IsKdfInput b → kdf_string a ≡ kdf_string b → a ≡ b
unfolding kdf_string
one_input (Kenb m) (Kenb n) fits fits' e = ap Kenb (four_octets m n fits fits' (ap (λ s. take 4 (drop 1 s)) e))
one_input (Nh s) (Nh t) _ _ e = ap Nh (one_parameter s t (ap (drop 1) e))
one_input (Star p f) (Star q g) fits fits' e =
    let pci : p ≡ q = two_octets p q fits.0 fits'.0 (ap (λ s. take 2 (drop 1 s)) e) in
    let earfcn : f ≡ g = one_earfcn f g fits.1 fits'.1 (one_parameter _ _ (ap (drop 5) e)) in
    cc
one_input (Alg k i) (Alg l j) _ _ e = cc
one_input a b _ _ e = let first = ap (λ s. get_or s 0 0) e in absurd (omega arith)
