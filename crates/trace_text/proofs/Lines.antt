-- The end of the lines.
use Rattle.std.proofs.Common.{◌≡◌, ℕ, Ok, List, [], ◌∷◌, length, arith}
use Rattle.text_lines.specs.Lines.{lines_of}
use Rattle.trace_text.specs.{Question.Question, Text.reading_from, Text.reading_of}

pub reading_ends : (text rest : List ℕ) (number : ℕ) (q : Question)
    → reading_of text ≡ reading_from number q (lines_of rest)
    → length rest ≡ 0
    → reading_of text ≡ Ok q
unfolding lines_of
reading_ends text [] number q so_far none = so_far
reading_ends text (octet ∷ octets) number q so_far none = absurd (omega (arith, none))
