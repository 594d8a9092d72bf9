-- Which stations can derive the key that the phone came by last.
use Rattle.std.specs.Prelude.{ℕ, ◌||◌, Bool, true, false, List, [], ◌∷◌, ◌++◌, get_or, Option, Some, None}
use Rattle.hmac_kdf.specs.{declared.input.KdfInput.KdfInput, declared.input.KdfInput.TheVariants.Star}
use Rattle.key_terms.specs.{Ladder.row_of, declared.proof.Proof.Proof, declared.row.LadderRow.LadderRow, declared.row.Origin.Origin}
use Rattle.key_terms.specs.declared.row.Origin.TheVariants.{Root, From}
use Rattle.lte_events.specs.declared.replies.KeyNote.{KeyNote}
use Rattle.lte_machine.specs.{BothRuns.octet_run, Machines.Kept}
use Rattle.lte_machine.specs.Run.{RunState, Running, Stopped}
use Rattle.store_laws.specs.Rows.{world_rows}
use Rattle.item_lines.specs.{Lines.phone_note, declared.lines.Told.Told}
use Rattle.item_runs.specs.Course.{Seen}

-- THE KEY

-- the key that the phone came by last
abbrev pub newer : Option (List ℕ) → Option KeyNote → Option (List ℕ)
newer key None = key
newer key (Some note) = Some note.key

unfoldable pub last_key_from : Option (List ℕ) → List Told → Option (List ℕ)
last_key_from key [] = key
last_key_from key (t ∷ ts) = last_key_from (newer key (phone_note t)) ts

abbrev pub last_key : List Told → Option (List ℕ)
last_key told = last_key_from None told

-- whether a station can derive the key of a row: it holds it, or it can derive the key that it is KeNB* of (TS 33.401 A.5). `marks` says so
-- of the rows before
abbrev pub by_star : List Bool → ℕ → KdfInput → Bool
by_star marks key (Star pci earfcn) = get_or marks key false
by_star marks key other = false

abbrev pub by_origin : List Bool → Origin → Bool
by_origin marks Root = false
by_origin marks (From key input) = by_star marks key.0 input

abbrev pub is_derived : ℕ → List Bool → LadderRow → Bool
is_derived station marks r = get_or r.stations station false || by_origin marks r.origin

-- the same of each row, in order
unfoldable pub marks_from : ℕ → List Bool → List LadderRow → List Bool
marks_from station marks [] = marks
marks_from station marks (r ∷ rows) = marks_from station (marks ++ is_derived station marks r ∷ []) rows

abbrev pub can_derive : List LadderRow → ℕ → ℕ → Bool
can_derive rows row station = get_or (marks_from station [] rows) row false

-- those of these stations that can
abbrev pub with_if : Bool → ℕ → List ℕ → List ℕ
with_if true station found = found ++ station ∷ []
with_if false station found = found

unfoldable pub who_from : List LadderRow → ℕ → List ℕ → List ℕ → List ℕ
who_from rows row [] found = found
who_from rows row (s ∷ ss) found = who_from rows row ss (with_if (can_derive rows row s) s found)

abbrev pub all_stations : List ℕ
all_stations = 0 ∷ 1 ∷ 2 ∷ 3 ∷ 4 ∷ 5 ∷ 6 ∷ 7 ∷ []

abbrev pub who_can : List LadderRow → Option ℕ → List ℕ
who_can rows None = []
who_can rows (Some row) = who_from rows row all_stations []

abbrev pub reach_by : List LadderRow → Option (List ℕ) → List ℕ
reach_by rows None = []
reach_by rows (Some key) = who_can rows (row_of rows key)

abbrev pub rows_in : RunState (List ℕ) ℕ Kept → List LadderRow
rows_in (Running w) = world_rows w
rows_in (Stopped coincidence) = []

abbrev pub reach_unless : Option Proof → RunState (List ℕ) ℕ Kept → List Told → List ℕ
reach_unless None run told = reach_by (rows_in run) (last_key told)
reach_unless (Some proof) run told = []

-- the stations that can derive the key that the phone came by last, unless a coincidence ended it
abbrev pub reach_of : Seen → List ℕ
reach_of s = reach_unless s.coming.over (octet_run s.setup s.coming.events) s.coming.told
