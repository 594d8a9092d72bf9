-- The summary of a run: six figures, a line each.
use Rattle.std.specs.Prelude.{ℕ, Bool, true, false, ◌&&◌, not, Option, Some, None, List, [], ◌∷◌, ◌++◌, length, codes}
use Rattle.std.specs.{List.count_by, List.flat_map, Option.is_some, Fmt.decimal}
use Rattle.rec_base.specs.declared.ways.Way.{Way}
use Rattle.rec_base.specs.declared.ways.Way.TheVariants as way
use Rattle.lte_events.specs.{declared.answers.Answer.Answer, declared.answers.Answer.TheVariants.Done, declared.lines.Line.Line, declared.lines.Who.Who, declared.replies.KeyNote.KeyNote}
use Rattle.lte_events.specs.declared.lines.Who.TheVariants as who
use Rattle.report_text.specs.declared.summaries.Figure.{Figure}
use Rattle.report_text.specs.declared.summaries.Figure.TheVariants.{Steps, Records, Refused, Handovers, Vertical, Rows}

-- of a line: a record was sent
abbrev pub has_sent : Line → Bool
has_sent line = is_some line.sent

-- the event was refused
abbrev pub is_done : Answer → Bool
is_done Done = true
is_done other = false

abbrev pub is_refused : Line → Bool
is_refused line = not (is_done line.answer)

-- a handover was completed, as its target tells
abbrev pub is_completion : Way → Bool
is_completion way.Completed = true
is_completion other = false

abbrev pub has_note : (Way → Bool) → Option KeyNote → Bool
has_note test None = false
has_note test (Some note) = test note.way

abbrev pub is_handover : Line → Bool
is_handover line = has_note is_completion line.note

-- the phone came by a key from an unused NH
abbrev pub is_from_nh : Way → Bool
is_from_nh way.Vertical = true
is_from_nh other = false

abbrev pub is_phone : Who → Bool
is_phone who.Phone = true
is_phone other = false

abbrev pub is_vertical : Line → Bool
is_vertical line = is_phone line.who && has_note is_from_nh line.note

-- how many lines there are of each
pub record Tallied : Type 0 where
  pub steps : ℕ
  pub records : ℕ
  pub refused : ℕ
  pub handovers : ℕ
  pub vertical : ℕ

abbrev pub tally_of : List Line → Tallied
tally_of lines = record {
  steps = length lines;
  records = count_by has_sent lines;
  refused = count_by is_refused lines;
  handovers = count_by is_handover lines;
  vertical = count_by is_vertical lines;
}

-- the figures in their order, each with its name; the last is the number of the ladder's rows
abbrev pub figures : List Figure
figures = Steps ∷ Records ∷ Refused ∷ Handovers ∷ Vertical ∷ Rows ∷ []

abbrev pub name_of : Figure → List ℕ
name_of Steps = codes "steps"
name_of Records = codes "records"
name_of Refused = codes "refused"
name_of Handovers = codes "handovers"
name_of Vertical = codes "vertical"
name_of Rows = codes "rows"

abbrev pub number_of : Tallied → ℕ → Figure → ℕ
number_of tally rows Steps = tally.steps
number_of tally rows Records = tally.records
number_of tally rows Refused = tally.refused
number_of tally rows Handovers = tally.handovers
number_of tally rows Vertical = tally.vertical
number_of tally rows Rows = rows

unfoldable pub figure_text : Tallied → ℕ → Figure → List ℕ
figure_text tally rows figure = name_of figure ++ (codes " " ++ (decimal (number_of tally rows figure) ++ codes "\n"))

abbrev pub figures_text : Tallied → ℕ → List ℕ
figures_text tally rows = flat_map (figure_text tally rows) figures

-- the summary of a run with these lines and so many rows
abbrev pub summary_text : List Line → ℕ → List ℕ
summary_text lines rows = figures_text (tally_of lines) rows
