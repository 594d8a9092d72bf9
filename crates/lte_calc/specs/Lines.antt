-- What is so while the lines are answered.
use Rattle.std.specs.Prelude.{◌≡◌, ◌&&◌, Bool, true, false, List, [], ◌∷◌, ◌++◌, ℕ, ◌<◌, length, take}
use Rattle.std.specs.List.{list_all}
use Rattle.edge_io.specs.{Told.Told, Cause.Rose, Octets.Grows, Octets.GrowsByProperPrefix}
use Rattle.calc_text.specs.Answer.{Answer, answer_to}
use Rattle.text_lines.specs.Lines.{ended, last_line}
use Rattle.lte_calc.specs.{declared.status.Status.Status, Output.output_of}
use Rattle.lte_calc.specs.declared.status.Status.TheVariants.{Done, Memory, Refused, WriteFault, TooLong}
use Rattle.lte_calc.specs.Run.{IsLine, AreLines, BeginTooLong}

-- the status of an input that was read to its end, by whether all its lines are good
abbrev pub ends_of : Bool → Status
ends_of true = Done
ends_of false = Refused

abbrev pub all_good : List (List ℕ) → Bool
all_good lines = list_all (λ line. (answer_to line).good) lines

-- what is so of one answer at each status
abbrev pub LineAt : Status → Answer → Bool → Bool → Told → Told → Type 0
LineAt Done answer good good' out out' = (good' ≡ (good && answer.good)) × Grows out.written out'.written answer.text
LineAt Memory answer good good' out out' = Grows out.written out'.written []
LineAt WriteFault answer good good' out out' = Rose out.write_faults out'.write_faults × GrowsByProperPrefix out.written out'.written answer.text
LineAt other answer good good' out out' = ⊥

-- the whole lines of a text were answered, and this rest is behind them
pub record AnsweredUpTo (text rest : List ℕ) (good good' : Bool) (out out' : Told) : Type 0 where
  pub lines : List (List ℕ)
  pub are : AreLines lines
  pub is : text ≡ ended lines ++ rest
  pub status : good' ≡ (good && all_good lines)
  pub grows : Grows out.written out'.written (output_of lines).text

-- what was written is the answers to these lines, and of the answer to the next one a prefix that is not all
pub record CutAt (lines : List (List ℕ)) (rest : List ℕ) (out out' : Told) : Type 0 where
  pub line : List ℕ
  pub more : List ℕ
  pub next : rest ≡ line ++ (10 ∷ more)
  pub is : IsLine line
  pub count : ℕ
  pub short : count < length (answer_to line).text
  pub written : Grows out.written out'.written ((output_of lines).text ++ take count (answer_to line).text)

-- what is so of the lines of a text at a status that ends the run
abbrev pub StoppedAt : Status → List (List ℕ) → List ℕ → Told → Told → Type 0
StoppedAt Memory lines rest out out' = Grows out.written out'.written (output_of lines).text
StoppedAt TooLong lines rest out out' = BeginTooLong rest × Grows out.written out'.written (output_of lines).text
StoppedAt WriteFault lines rest out out' =
    Rose out.write_faults out'.write_faults × CutAt lines rest out out'
StoppedAt other lines rest out out' = ⊥

-- the lines of a text were answered up to one at which the run ends
pub record StoppedIn (status : Status) (text : List ℕ) (out out' : Told) : Type 0 where
  pub lines : List (List ℕ)
  pub rest : List ℕ
  pub are : AreLines lines
  pub is : text ≡ ended lines ++ rest
  pub at : StoppedAt status lines rest out out'

-- the last line was answered, if there is one
abbrev pub LastAt : Status → List ℕ → Bool → Told → Told → Type 0
LastAt Done line good out out' = ((good && all_good (last_line line)) ≡ true) × Grows out.written out'.written (output_of (last_line line)).text
LastAt Refused line good out out' = ((good && all_good (last_line line)) ≡ false) × Grows out.written out'.written (output_of (last_line line)).text
LastAt Memory line good out out' = Grows out.written out'.written []
LastAt WriteFault line good out out' =
    (last_line line ≡ line ∷ []) × Rose out.write_faults out'.write_faults × GrowsByProperPrefix out.written out'.written (answer_to line).text
LastAt other line good out out' = ⊥
