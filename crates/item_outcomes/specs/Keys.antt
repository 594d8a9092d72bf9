-- The keys that the phone came by.
use Rattle.std.specs.Prelude.{ℕ, ◌&&◌, ◌||◌, nat_lt, Bool, true, false, not, List, [], ◌∷◌, ◌++◌, length, Option, Some, None}
use Rattle.std.specs.List.{list_any}
use Rattle.lte_events.specs.declared.replies.KeyNote.{KeyNote}
use Rattle.item_lines.specs.declared.lines.Told.{Told}
use Rattle.item_lines.specs.Lines.{line_of, parts, phone_note, note_in, is_vertical, is_horizontal}
use Rattle.item_outcomes.specs.{Probe.is_among, Probe.probe, Standing.Standing}

abbrev pub is_told : Option KeyNote → Bool
is_told None = false
is_told (Some note) = true

abbrev pub with_if : Bool → ℕ → List ℕ → List ℕ
with_if true name names = names ++ name ∷ []
with_if false name names = names

-- NOT MADE: the phone came by a key at an item of the scenario, and not here
abbrev pub is_made : Option Told → Bool
is_made None = false
is_made (Some t) = is_told (phone_note t)

abbrev pub is_missed : List Told → Told → Bool
is_missed here t = is_told (phone_note t) && (nat_lt t.name probe && not (is_made (line_of t.name here)))

abbrev pub not_made : List Told → List Told → Bool
not_made usual here = list_any (is_missed here) usual

-- WEAKER KEY: the phone came by a key `horizontal` that is `vertical` in the scenario, or more stations can derive its last key
abbrev pub is_weaker : List Told → Told → Bool
is_weaker here t = is_vertical (phone_note t) && is_horizontal (note_in (line_of t.name here))

abbrev pub weaker_key : Standing → Standing → Bool
weaker_key usual here = list_any (is_weaker here.told) usual.told || nat_lt (length usual.reach) (length here.reach)

-- KEYS DIFFER: the phone takes, at an item and an air address, another key than the station there told, and in the scenario it does not at that item
unfoldable pub parted_from : List Told → List Told → List ℕ → List ℕ
parted_from before [] found = found
parted_from before (t ∷ ts) found = parted_from (before ++ t ∷ []) ts (with_if (parts before t) t.name found)

-- the items at which it does so
abbrev pub parted : List Told → List ℕ
parted told = parted_from [] told []

abbrev pub is_new : List ℕ → ℕ → Bool
is_new usual name = not (is_among usual name)

abbrev pub keys_differ : List Told → List Told → Bool
keys_differ usual here = list_any (is_new (parted usual)) (parted here)
