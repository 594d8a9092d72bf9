-- Whether lines tell the same.
use Rattle.std.specs.Prelude.{ℕ, ◌==◌, ◌&&◌, Bool, true, false, List, Option, Some, None}
use Rattle.std.specs.Str.{bytes_eq}
use Rattle.rec_base.specs.declared.ways.Way.{Way}
use Rattle.rec_base.specs.declared.ways.Way.TheVariants as way
use Rattle.lte_events.specs.{Answer.number_of, declared.lines.Line.Line, declared.lines.Who.Who, declared.replies.KeyNote.KeyNote}
use Rattle.lte_events.specs.declared.lines.Who.TheVariants as who
use Rattle.item_lines.specs.declared.lines.Told.{Told}

abbrev pub same_who : Who → Who → Bool
same_who who.Both who.Both = true
same_who who.World who.World = true
same_who who.Phone who.Phone = true
same_who who.Core who.Core = true
same_who (who.Station id) (who.Station other) = id == other
same_who one other = false

abbrev pub same_text : Option (List ℕ) → Option (List ℕ) → Bool
same_text None None = true
same_text (Some text) (Some other) = bytes_eq text other
same_text one other = false

abbrev pub same_way : Way → Way → Bool
same_way way.Initial way.Initial = true
same_way way.Horizontal way.Horizontal = true
same_way way.Vertical way.Vertical = true
same_way way.Given way.Given = true
same_way way.Completed way.Completed = true
same_way way.Chained way.Chained = true
same_way one other = false

abbrev pub same_ways : Option KeyNote → Option KeyNote → Bool
same_ways None None = true
same_ways (Some note) (Some other) = same_way note.way other.way
same_ways one other = false

-- two lines tell the same: actor, answer, text and way. Numbers shift in harmless ways
abbrev pub same_line : Line → Line → Bool
same_line l m = same_who l.who m.who && (number_of l.answer == number_of m.answer && (same_text l.opened m.opened && same_ways l.note m.note))

abbrev pub same_told : Option Told → Option Told → Bool
same_told None None = true
same_told (Some t) (Some u) = same_line t.line u.line
same_told one other = false
