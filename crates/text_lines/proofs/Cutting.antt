-- The first line of a text and the lines behind it.
use Rattle.std.proofs.Common.{rules, ◌≡◌, ℕ, zero, suc, ◌+◌, ◌-◌, ◌<◌, not, true, false, Some, None, List, [], ◌∷◌, length, take, drop, get_or, refl, sym, ap, ◌∙◌, add-one, arith}
use Rattle.std.proofs.{lemmas.List.take_rest, lemmas.List.Quantifiers.position-Some, lemmas.List.Sums.fails_before_first, lemmas.List.Sums.prefix_len-le-length}
use Rattle.std.specs.List.{onto_first, position, position_or_len}
use Rattle.text_lines.specs.Lines.{is_feed, lines_of}

-- a line that ends with a line feed at place k
lines_cut : (text : List ℕ) (k : ℕ)
    → k < length text
    → is_feed (get_or text k 0) ≡ true
    → ((j : ℕ) → j < k → is_feed (get_or text j 0) ≡ false)
    → lines_of text ≡ take k text ∷ lines_of (drop (suc k) text)
unfolding lines_of
lines_cut [] k within feed before = absurd (omega arith)
lines_cut (octet ∷ octets) zero within feed before = let e : is_feed octet ≡ true = feed in rw e refl
lines_cut (octet ∷ octets) (suc k) within feed before =
    let e : is_feed octet ≡ false = before 0 (omega arith) in
    let behind = lines_cut octets k (omega arith) feed (λ j lt. before (suc j) (omega (arith, lt))) in
    rw (e, behind) refl

-- a text with no line feed is one line
lines_whole : (text : List ℕ) → 0 < length text → ((j : ℕ) → j < length text → is_feed (get_or text j 0) ≡ false) → lines_of text ≡ text ∷ []
unfolding lines_of
lines_whole [] within none = absurd (omega arith)
lines_whole (octet ∷ []) within none = let e : is_feed octet ≡ false = none 0 (omega arith) in rw e refl
lines_whole (octet ∷ next ∷ octets) within none =
    let e : is_feed octet ≡ false = none 0 (omega arith) in
    let behind = lines_whole (next ∷ octets) (omega arith) (λ j lt. none (suc j) (omega (arith, lt))) in
    rw e (ap (onto_first octet) behind)

-- where there is no line feed, the first is past the end
pub past_end : (text : List ℕ) → position is_feed text ≡ None → position_or_len is_feed text ≡ length text
past_end text none = grind (arith, rules, prefix_len-le-length (λ x. not (is_feed x)) text)

no_lines : lines_of [] ≡ []
unfolding lines_of
no_lines = refl

pub lines_at_feed : (text : List ℕ) (k : ℕ)
    → position is_feed text ≡ Some k
    → lines_of text ≡ take k text ∷ lines_of (take (length text - (k + 1)) (drop (k + 1) text))
lines_at_feed text k found =
    let first = position-Some is_feed text k 0 found in
    rw (take_rest, add-one) (lines_cut text k first.0 first.1 first.2)

pub lines_without_feed : (text : List ℕ) → 0 < length text → position is_feed text ≡ None → lines_of text ≡ text ∷ lines_of []
lines_without_feed text some none =
    let past = past_end text none in
    let one = lines_whole text some (λ j lt. fails_before_first is_feed text j 0 (omega (arith, past, lt))) in
    one ∙ ap (λ lines. text ∷ lines) (sym no_lines)
