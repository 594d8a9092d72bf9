-- What is read from lines by the names of their items.
use Rattle.std.specs.Prelude.{ℕ, ◌==◌, ◌&&◌, Bool, true, false, not, List, find, Option, Some, None, is_some}
use Rattle.std.specs.{Option.option_map, Str.bytes_eq}
use Rattle.rec_base.specs.declared.ways.Way.{Way}
use Rattle.rec_base.specs.declared.ways.Way.TheVariants.{Horizontal, Vertical}
use Rattle.lte_events.specs.{declared.answers.Answer.Answer, declared.lines.Who.Who, declared.replies.KeyNote.KeyNote}
use Rattle.lte_events.specs.declared.answers.Answer.TheVariants.{Done, NoUe}
use Rattle.lte_events.specs.declared.lines.Who.TheVariants as who
use Rattle.item_lines.specs.declared.lines.Told.{Told}

-- the first line of the item of this name
abbrev pub line_of : ℕ → List Told → Option Told
line_of name told = find (λ t. t.name == name) told

-- ANSWERS

abbrev pub is_done : Answer → Bool
is_done Done = true
is_done other = false

abbrev pub is_no_ue : Answer → Bool
is_no_ue NoUe = true
is_no_ue other = false

-- whether the item of this name has a line, and with this answer
abbrev pub answers : (Answer → Bool) → Option Told → Bool
answers is None = false
answers is (Some t) = is t.line.answer

-- TEXTS

-- whether there is a text, and this one
abbrev pub is_text : List ℕ → Option (List ℕ) → Bool
is_text text None = false
is_text text (Some other) = bytes_eq other text

abbrev pub opened_in : Option Told → Option (List ℕ)
opened_in None = None
opened_in (Some t) = t.line.opened

-- KEYS

-- what a line tells of a key of the phone, and of a key of a station
abbrev pub note_at_phone : Who → Option KeyNote → Option KeyNote
note_at_phone who.Phone told = told
note_at_phone other told = None

abbrev pub note_at_station : Who → Option KeyNote → Option KeyNote
note_at_station (who.Station id) told = told
note_at_station other told = None

abbrev pub phone_note : Told → Option KeyNote
phone_note t = note_at_phone t.line.who t.line.note

abbrev pub station_note : Told → Option KeyNote
station_note t = note_at_station t.line.who t.line.note

abbrev pub note_in : Option Told → Option KeyNote
note_in None = None
note_in (Some t) = t.line.note

-- whether a key is told, and this one
abbrev pub is_key : List ℕ → Option KeyNote → Bool
is_key key None = false
is_key key (Some note) = bytes_eq note.key key

-- KEYS PART: the phone takes, at an air address, another key than the station there told for it

abbrev pub same_air : Option (ℕ × ℕ) → Option (ℕ × ℕ) → Bool
same_air (Some (station, air)) (Some (id, number)) = (station == id) && (air == number)
same_air one other = false

-- a line of a station tells a key for the air address of this line
abbrev pub is_made_for : Told → Told → Bool
is_made_for t u = is_some (station_note u) && same_air u.at t.at

-- the first that does
abbrev pub made_for : List Told → Told → Option KeyNote
made_for before t = note_in (find (is_made_for t) before)

abbrev pub differs : Option KeyNote → Option KeyNote → Bool
differs (Some taken) (Some made) = not (bytes_eq made.key taken.key)
differs taken made = false

abbrev pub parts : List Told → Told → Bool
parts before t = differs (phone_note t) (made_for before t)

-- WAYS

abbrev pub is_way_vertical : Way → Bool
is_way_vertical Vertical = true
is_way_vertical other = false

abbrev pub is_way_horizontal : Way → Bool
is_way_horizontal Horizontal = true
is_way_horizontal other = false

abbrev pub is_vertical : Option KeyNote → Bool
is_vertical None = false
is_vertical (Some note) = is_way_vertical note.way

abbrev pub is_horizontal : Option KeyNote → Bool
is_horizontal None = false
is_horizontal (Some note) = is_way_horizontal note.way
