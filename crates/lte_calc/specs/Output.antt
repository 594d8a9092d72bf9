-- The output for the lines of an input.
use Rattle.std.specs.Prelude.{ℕ, nat_lt, if◌then◌else◌, List, [], ◌∷◌, ◌++◌, length}
use Rattle.calc_text.specs.Answer.{Answer, answer_to}
use Rattle.lte_calc.specs.declared.status.Status.{Status}
use Rattle.lte_calc.specs.declared.status.Status.TheVariants.{Done, Refused, TooLong}

-- the greatest number of octets of a line
abbrev pub longest_line : ℕ
longest_line = 65536

-- what is written, and the status
pub record Output : Type 0 where
  pub text : List ℕ
  pub ends : Status

-- a bad line refuses the input, unless that ends otherwise
abbrev pub at_least_refused : Status → Status
at_least_refused Done = Refused
at_least_refused other = other

-- an answer, and then what follows
abbrev pub with_answer : Answer → Output → Output
with_answer answer rest = record { text = answer.text ++ rest.text; ends = if answer.good then rest.ends else at_least_refused rest.ends }

-- each line has its answer, in order, up to one that is too long
unfoldable pub output_of : List (List ℕ) → Output
output_of [] = record { text = []; ends = Done }
output_of (line ∷ lines) =
    if nat_lt longest_line (length line) then record { text = []; ends = TooLong } else with_answer (answer_to line) (output_of lines)
