-- Which keys a table may have.
use Rattle.std.specs.Prelude.{ℕ, Bool, true, ◌&&◌, if◌then◌else◌, List, Result, Ok, Err}
use Rattle.std.specs.{List.list_any, Str.bytes_eq}
use Rattle.toml.specs.Data.{Members, no_members, member}
use Rattle.scenario_file.specs.{declared.fields.Field.Field, declared.faults.Refusal.Refusal, declared.faults.Refusal.TheVariants.Unknown, Field.name_of}

-- whether a key is one of these fields
abbrev pub is_one_of : List Field → List ℕ → Bool
is_one_of fields key = list_any (λ field. bytes_eq (name_of field) key) fields

-- whether each key of a table is
abbrev pub has_only : List Field → Members → Bool
has_only fields no_members = true
has_only fields (member key value table) = is_one_of fields key && has_only fields table

-- a table with no other fields than these
unfoldable pub only_in : List Field → Members → Result (Unit {0}) Refusal
only_in fields table = if has_only fields table then Ok tt else Err Unknown
