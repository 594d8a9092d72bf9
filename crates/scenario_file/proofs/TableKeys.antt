-- The keys of a table beside the members that it stands for.
use Rattle.std.proofs.Common.{◌≡◌, ℕ, ◌&&◌, List, [], ◌∷◌, ◌++◌, String, BTreeMap, Global, string_bytes, refl, ap}
use Rattle.std.specs.{Prelude.◌||◌, List.list_all, Str.bytes_eq, Map.keys_of, BTreeMap.keys}
use Rattle.std.proofs.lemmas.List.Folds.{list_any-append}
use Rattle.toml.specs.{declared.value.Value.Value, View.members_view, View.table_view}
use Rattle.scenario_file.specs.{declared.fields.Field.Field, Field.name_of, Keys.is_one_of, Keys.has_only}

entries_have_only : (fields : List Field) (es : List (String Global × Value))
    → list_all (λ k. is_one_of fields (string_bytes k)) (keys_of es) ≡ has_only fields (members_view es)
entries_have_only fields [] = refl
entries_have_only fields (e ∷ es) = ap (λ b. is_one_of fields (string_bytes e.0) && b) (entries_have_only fields es)

-- each key of a table is one of these fields, asked of its map or of its members
pub all_keys : (fields : List Field) (t : BTreeMap (String Global) Value)
    → list_all (λ k. is_one_of fields (string_bytes k)) (keys t) ≡ has_only fields (table_view t)
all_keys fields t = entries_have_only fields t.entries

-- a key is one of these fields or those where it is one of these, or one of those
pub known_in_both : (fields more : List Field) (key : List ℕ) → is_one_of (fields ++ more) key ≡ (is_one_of fields key || is_one_of more key)
known_in_both fields more key = list_any-append (λ field. bytes_eq (name_of field) key) fields more
