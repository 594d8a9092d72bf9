-- What question a text is, or which line is the first bad one.
use Rattle.std.specs.Prelude.{ℕ, suc, ◌==◌, Bool, true, if◌then◌else◌, Option, Some, None, Result, Ok, Err, List, [], ◌∷◌}
use Rattle.std.specs.Option.{option_map}
use Rattle.text_lines.specs.{Lines.lines_of, Words.words_of}
use Rattle.trace_text.specs.{Question.Question, Question.nothing, Question.with_entry, Entry.entry_of}

-- a line that is empty or begins with `#` says nothing
abbrev pub is_silent : List ℕ → Bool
is_silent [] = true
is_silent (first ∷ octets) = first == 35

-- a question with one line more, if it is one
abbrev pub with_line : Question → List ℕ → Option Question
with_line q line = if is_silent line then Some q else option_map (with_entry q) (entry_of (words_of line))

abbrev pub go_on : (ℕ → Question → Result Question ℕ) → ℕ → Option Question → Result Question ℕ
go_on rest number None = Err number
go_on rest number (Some q) = rest (suc number) q

-- the lines from this number on
abbrev pub reading_from : ℕ → Question → List (List ℕ) → Result Question ℕ
reading_from number q [] = Ok q
reading_from number q (line ∷ lines) = go_on (λ n p. reading_from n p lines) number (with_line q line)

-- the question, or the number of the first bad line, counted from 1
abbrev pub reading_of : List ℕ → Result Question ℕ
reading_of octets = reading_from 1 nothing (lines_of octets)
