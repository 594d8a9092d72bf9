-- What `parse` gives for a word of digits.
use Rattle.std.proofs.Common.{◌≡◌, ℕ, ◌<◌, ◌^◌, inl, inr, true, false, List, [], ◌∷◌, length, Some, None, Result, Ok, Err, refl, ap, arith, rules}
use Rattle.std.proofs.lemmas.Bool.{false≢true, and_parts, cases_lt, lt-ltb, le-ltb}
use Rattle.std.proofs.{lemmas.Fmt.IsAscii-from_digits, lemmas.Str.IsUtf8-from_ascii}
use Rattle.std.proofs.lemmas.Str.Parse.{IsNumeralModel, numerals_by_value, parse_digits}
use Rattle.std.specs.{Char.is_ascii_digit, List.list_all, Str.IsUtf8, Str.Parse.ParsesUnsigned, Str.Parse.digits_value}
use Rattle.std.specs.Result.{result_ok, IsOk, MatchResult}
use Rattle.text_lines.specs.Words.{starts_well, is_numeral, number_of}

-- digits, and the number that they are
digits_model : IsNumeralModel (λ ds. list_all is_ascii_digit ds ≡ true) (digits_value 10)
digits_model = numerals_by_value _ (search rules)

all_digits : (word : List ℕ) → is_numeral word ≡ true → list_all is_ascii_digit word ≡ true
all_digits word h = (and_parts (starts_well word) (list_all is_ascii_digit word) h).1

some_digit : (word : List ℕ) → is_numeral word ≡ true → 0 < length word
some_digit [] h = absurd (false≢true h)
some_digit (digit ∷ digits) h = omega arith

numeral_utf8 : (word : List ℕ) → is_numeral word ≡ true → IsUtf8 word
numeral_utf8 word h = IsUtf8-from_ascii word (IsAscii-from_digits word (digits_model.to word (all_digits word h)))

-- a word of digits is a text
pub numeral_is_text : {T E : Type 0} (word : List ℕ) (r : Result T E) (P : T → Type 0) (Q : E → Type 0)
    → is_numeral word ≡ true
    → MatchResult r P (λ e. ¬ (IsUtf8 word) × Q e)
    → IsOk r
numeral_is_text word (Ok text) P Q h cases = refl
numeral_is_text word (Err e) P Q h cases = absurd (cases.0 (numeral_utf8 word h))

pub parsed : {E : Type 0} (word : List ℕ) (r : Result ℕ E) → is_numeral word ≡ true → ParsesUnsigned 32 10 word r → result_ok r ≡ number_of word
unfolding number_of
parsed {E} word (Ok n) h gives =
    let found = parse_digits digits_model {E = E} 32 word (Ok n) gives (all_digits word h) in
    rw (h, lt-ltb (digits_value 10 word) (2 ^ 32) found.0.1) (ap Some found.1)
parsed {E} word (Err e) h gives =
    let found = parse_digits digits_model {E = E} 32 word (Err e) gives (all_digits word h) in
    elim (cases_lt (digits_value 10 word) (2 ^ 32)) [
      | inl fits ↦ absurd (found (some_digit word h, fits))
      | inr wide ↦ rw (h, le-ltb (digits_value 10 word) (2 ^ 32) wide) refl
    ]

-- no other word is a number
pub no_numeral : (word : List ℕ) → is_numeral word ≡ false → number_of word ≡ None
unfolding number_of
no_numeral word h = rw h refl
