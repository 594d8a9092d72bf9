-- What is so of a run of the program at each status.
use Rattle.std.specs.Prelude.{◌≡◌, ℕ, ◌+◌, ◌≤◌, ◌<◌, ◌⊎◌, false, Option, Some, List, [], ◌∷◌, ◌++◌, length, take}
use Rattle.std.specs.Io.KnownBytes.{IsAtEnd}
use Rattle.edge_io.specs.{Told.Told, Told.HasEnded, Cause.Rose, Octets.Gives, Octets.Grows}
use Rattle.calc_text.specs.Answer.{answer_to}
use Rattle.text_lines.specs.Lines.{has_feed, lines_of, ended, last_line}
use Rattle.lte_calc.specs.{declared.status.Status.Status, Output.longest_line, Output.output_of}
use Rattle.lte_calc.specs.declared.status.Status.TheVariants.{Done, Memory, BadWords, Refused, ReadFault, WriteFault, TooLong}

-- a line has no line feed, and at most 65,536 octets
abbrev pub IsLine : List ℕ → Type 0
IsLine line = (has_feed line ≡ false) × (length line ≤ longest_line)

abbrev pub AreLines : List (List ℕ) → Type 0
AreLines [] = Unit {0}
AreLines (line ∷ lines) = IsLine line × AreLines lines

-- octets that begin with more than 65,536 of one line
abbrev pub BeginTooLong : List ℕ → Type 0
BeginTooLong octets = (longest_line < length octets) × (has_feed (take (longest_line + 1) octets) ≡ false)

-- the next line in these octets, with its line feed, or the last one of an input that is at its end
abbrev pub IsNext : List ℕ → List ℕ → Option (List ℕ) → Type 0
IsNext line octets left = ((more : List ℕ) × (octets ≡ line ++ (10 ∷ more))) ⊎ ((octets ≡ line) × IsAtEnd left)

-- these octets were read
pub record Came (octets : List ℕ) (input input' : Told) : Type 0 where
  pub gives : Gives input.left input'.left octets
  pub most : input'.most + length octets ≤ input.most

-- the input was read to its end, and each line has its answer
pub record AllAnswered (ends : Status) (lines : List (List ℕ)) (rest : List ℕ) (input' out out' : Told) : Type 0 where
  pub end : HasEnded input'
  pub last : IsLine rest
  pub status : (output_of (lines ++ last_line rest)).ends ≡ ends
  pub written : Grows out.written out'.written (output_of (lines ++ last_line rest)).text

-- what was written is the answers to these lines, and of the answer to the next one a prefix that is not all
pub record CutIn (lines : List (List ℕ)) (rest : List ℕ) (input' out out' : Told) : Type 0 where
  pub line : List ℕ
  pub next : IsNext line rest input'.left
  pub is : IsLine line
  pub count : ℕ
  pub short : count < length (answer_to line).text
  pub written : Grows out.written out'.written ((output_of lines).text ++ take count (answer_to line).text)

-- What is so at each status, by the lines that were answered and the octets that were read behind them.
abbrev pub RunAt : Status → List (List ℕ) → List ℕ → Told → Told → Told → Told → Type 0
RunAt Done lines rest input input' out out' = AllAnswered Done lines rest input' out out'
RunAt Refused lines rest input input' out out' = AllAnswered Refused lines rest input' out out'
-- the end was not met, and what comes behind the lines is no whole line
RunAt ReadFault lines rest input input' out out' =
    Rose input.read_faults input'.read_faults × (input'.ended ≡ input.ended) × (has_feed rest ≡ false) × Grows out.written out'.written (output_of lines).text
RunAt TooLong lines rest input input' out out' = BeginTooLong rest × Grows out.written out'.written (output_of lines).text
RunAt Memory lines rest input input' out out' = Grows out.written out'.written (output_of lines).text
RunAt WriteFault lines rest input input' out out' = Rose out.write_faults out'.write_faults × CutIn lines rest input' out out'
RunAt BadWords lines rest input input' out out' = ⊥

-- A run with this status: what was read is these lines with their line feeds, and then this rest, of which no more than a line and
-- the 4,096 octets of a read wait for their answer.
pub record Run (status : Status) (input input' out out' : Told) : Type 0 where
  pub lines : List (List ℕ)
  pub rest : List ℕ
  pub are : AreLines lines
  pub came : Came (ended lines ++ rest) input input'
  pub few : length rest ≤ longest_line + 4096
  pub at : RunAt status lines rest input input' out out'

-- Where no count rose, the whole output is written and the status is that of the output, unless memory ran out.
abbrev pub RunIsComplete : Status → Told → Told → Told → Told → Type 0
RunIsComplete status input input' out out' =
    (octets : List ℕ) → input.left ≡ Some octets → ¬ (Rose input.read_faults input'.read_faults) → ¬ (Rose out.write_faults out'.write_faults)
    → ((status ≡ (output_of (lines_of octets)).ends) × Grows out.written out'.written (output_of (lines_of octets)).text) ⊎ (status ≡ Memory)
