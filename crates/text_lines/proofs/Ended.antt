-- Lines with their line feeds, and what is behind them.
use Rattle.std.proofs.Common.{◌≡◌, ℕ, zero, suc, ◌+◌, ◌-◌, ◌<◌, ◌≤◌, Bool, true, false, not, cond, Some, None, List, [], ◌∷◌, ◌++◌, length, take, drop, get_or, refl, sym, ap, ◌∙◌, append_assoc, add-one, arith}
use Rattle.std.proofs.{lemmas.Bool.or_parts, lemmas.Bool.eqb-true, lemmas.List.take_rest, lemmas.List.Quantifiers.position-Some}
use Rattle.std.specs.List.{list_any, onto_first, position, position_or_len}
use Rattle.text_lines.proofs.Cutting.{past_end}
use Rattle.text_lines.specs.Lines.{is_feed, has_feed, lines_of, ended, last_line}

-- none passes where the first that does is past the end
first_fails : (b : Bool) (n m : ℕ) → cond (not b) (1 + n) 0 ≡ suc m → (b ≡ false) × (n ≡ m)
first_fails true n m e = absurd (omega arith)
first_fails false n m e = (refl, omega arith)

pub none_passes : {X : Type 0} (p : X → Bool) (xs : List X) → position_or_len p xs ≡ length xs → list_any p xs ≡ false
none_passes p [] past = refl
none_passes p (x ∷ xs) past =
    let first = first_fails (p x) (position_or_len p xs) (length xs) past in
    rw first.0 (none_passes p xs first.1)

pub no_feed : (text : List ℕ) → position is_feed text ≡ None → has_feed text ≡ false
no_feed text none = none_passes is_feed text (past_end text none)

-- a text is cut at its first line feed
cut : (text : List ℕ) (k : ℕ)
    → k < length text
    → is_feed (get_or text k 0) ≡ true
    → ((j : ℕ) → j < k → is_feed (get_or text j 0) ≡ false)
    → (has_feed (take k text) ≡ false) × (text ≡ take k text ++ (10 ∷ drop (suc k) text))
cut [] k within feed before = absurd (omega arith)
cut (octet ∷ octets) zero within feed before = let is : octet ≡ 10 = eqb-true octet 10 feed in (refl, ap (λ o. o ∷ octets) is)
cut (octet ∷ octets) (suc k) within feed before =
    let first : is_feed octet ≡ false = before 0 (omega arith) in
    let rest = cut octets k (omega arith) feed (λ j lt. before (suc j) (omega (arith, lt))) in
    (rw first rest.0, ap (λ os. octet ∷ os) rest.1)

-- what is behind it as the slice `text[k + 1..]` is written
pub cut_at_feed : (text : List ℕ) (k : ℕ)
    → position is_feed text ≡ Some k
    → (has_feed (take k text) ≡ false) × (text ≡ take k text ++ (10 ∷ take (length text - (k + 1)) (drop (k + 1) text)))
cut_at_feed text k found =
    let first = position-Some is_feed text k 0 found in
    rw (take_rest, add-one) (cut text k first.0 first.1 first.2)

-- no line has a line feed
abbrev pub AreWhole : List (List ℕ) → Type 0
AreWhole [] = Unit {0}
AreWhole (line ∷ lines) = (has_feed line ≡ false) × AreWhole lines

-- a line with its line feed is the first line
line_first : (line more : List ℕ) → has_feed line ≡ false → lines_of (line ++ (10 ∷ more)) ≡ line ∷ lines_of more
unfolding lines_of
line_first [] more whole = refl
line_first (octet ∷ octets) more whole =
    let parts = or_parts (is_feed octet) (has_feed octets) whole in
    rw (parts.0, line_first octets more parts.1) refl

-- lines with their line feeds are the first lines
pub lines_first : (lines : List (List ℕ)) (rest : List ℕ) → AreWhole lines → lines_of (ended lines ++ rest) ≡ lines ++ lines_of rest
unfolding ended
lines_first [] rest whole = refl
lines_first (line ∷ lines) rest whole =
    ap lines_of (append_assoc line (10 ∷ ended lines) rest)
    ∙ line_first line (ended lines ++ rest) whole.0
    ∙ ap (λ ls. line ∷ ls) (lines_first lines rest whole.1)

pub ended_append : (xs ys : List (List ℕ)) → ended (xs ++ ys) ≡ ended xs ++ ended ys
unfolding ended
ended_append [] ys = refl
ended_append (line ∷ xs) ys =
    ap (λ os. line ++ (10 ∷ os)) (ended_append xs ys) ∙ sym (append_assoc line (10 ∷ ended xs) (ended ys))

-- octets with no line feed are one line, or none
pub lines_last : (rest : List ℕ) → has_feed rest ≡ false → lines_of rest ≡ last_line rest
unfolding lines_of
lines_last [] whole = refl
lines_last (octet ∷ []) whole = let first = or_parts (is_feed octet) false whole in rw first.0 refl
lines_last (octet ∷ next ∷ octets) whole =
    let parts = or_parts (is_feed octet) (has_feed (next ∷ octets)) whole in
    rw (parts.0, lines_last (next ∷ octets) parts.1) refl

-- the first line is as long as what begins the text with no line feed
onto : (octet n : ℕ) (lines : List (List ℕ))
    → ((line : List ℕ) × (more : List (List ℕ)) × (lines ≡ line ∷ more) × (n ≤ length line))
    → (line : List ℕ) × (more : List (List ℕ)) × (onto_first octet lines ≡ line ∷ more) × (suc n ≤ length line)
onto octet n lines found =
    let line = found.0 in
    (octet ∷ line, found.1, ap (onto_first octet) found.2, omega (arith, found.3))

first_of : (octet : ℕ) (lines : List (List ℕ)) → (line : List ℕ) × (more : List (List ℕ)) × (onto_first octet lines ≡ line ∷ more) × (1 ≤ length line)
first_of octet [] = (octet ∷ [], [], refl, omega arith)
first_of octet (line ∷ lines) = (octet ∷ line, lines, refl, omega arith)

pub long_first : (text : List ℕ) (n : ℕ)
    → has_feed (take (suc n) text) ≡ false
    → suc n ≤ length text
    → (line : List ℕ) × (more : List (List ℕ)) × (lines_of text ≡ line ∷ more) × (suc n ≤ length line)
unfolding lines_of
long_first [] n whole within = absurd (omega arith)
long_first (octet ∷ octets) zero whole within =
    let parts = or_parts (is_feed octet) false whole in
    rw parts.0 (first_of octet (lines_of octets))
long_first (octet ∷ octets) (suc n) whole within =
    let parts = or_parts (is_feed octet) (has_feed (take (suc n) octets)) whole in
    rw parts.0 (onto octet (suc n) (lines_of octets) (long_first octets n parts.1 (omega arith)))
