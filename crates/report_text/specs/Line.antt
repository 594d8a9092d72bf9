-- The line of a report for an event.
use Rattle.std.specs.Prelude.{ℕ, Bool, true, false, Option, Some, None, List, [], ◌++◌, codes}
use Rattle.std.specs.Fmt.{decimal}
use Rattle.hex.specs.Hex.{encode_lower}
use Rattle.rec_base.specs.declared.ways.Way.{Way}
use Rattle.rec_base.specs.declared.ways.Way.TheVariants.{Initial, Horizontal, Vertical, Given, Completed, Chained}
use Rattle.lte_events.specs.{declared.classes.Class.Class, declared.lines.Line.Line, declared.lines.Who.Who, declared.replies.KeyNote.KeyNote, Answer.name_of}
use Rattle.lte_events.specs.declared.classes.Class.TheVariants.{Nas, Air, S1, X2}
use Rattle.lte_events.specs.declared.lines.Who.TheVariants.{Both, World, Phone, Core, Station}
use Rattle.report_text.specs.Details.{details_text}

-- who acted
abbrev pub who_text : Who → List ℕ
who_text Both = codes "both"
who_text World = codes "world"
who_text Phone = codes "phone"
who_text Core = codes "core"
who_text (Station id) = codes "station " ++ decimal id

-- the number of the record sent, and its interface
abbrev pub class_name : Class → List ℕ
class_name Nas = codes "nas"
class_name Air = codes "air"
class_name S1 = codes "s1"
class_name X2 = codes "x2"

abbrev pub sent_text : Option (ℕ × Class) → List ℕ
sent_text None = []
sent_text (Some sent) = codes " sent=" ++ (decimal sent.0 ++ (codes ":" ++ class_name sent.1))

-- the text that was opened, of no octets too
abbrev pub opened_text : Option (List ℕ) → List ℕ
opened_text None = []
opened_text (Some octets) = codes " text=" ++ encode_lower octets

-- NCC, the way in which an actor came by a key, and the key
abbrev pub way_name : Way → List ℕ
way_name Initial = codes "initial"
way_name Horizontal = codes "horizontal"
way_name Vertical = codes "vertical"
way_name Given = codes "given"
way_name Completed = codes "completed"
way_name Chained = codes "chained"

unfoldable pub key_note_text : KeyNote → List ℕ
key_note_text note =
    codes " ncc=" ++ (decimal note.ncc ++ (codes " way=" ++ (way_name note.way ++ (codes " key=" ++ encode_lower note.key))))

abbrev pub note_text : Option KeyNote → List ℕ
note_text None = []
note_text (Some note) = key_note_text note

abbrev pub alarm_text : Bool → List ℕ
alarm_text true = codes " alarm"
alarm_text false = []

-- step, who, answer, and then what there is of the rest
unfoldable pub line_text : Line → List ℕ
line_text line =
    decimal line.step ++ (codes " " ++ (who_text line.who ++ (codes " " ++ (name_of line.answer
    ++ (details_text line.answer ++ (sent_text line.sent ++ (opened_text line.opened ++ (note_text line.note
    ++ (alarm_text line.alarm ++ codes "\n")))))))))
