-- The values of an array beside the items that they stand for.
use Rattle.std.proofs.Common.{◌≡◌, ◌≢◌, suc, ◌<◌, ◌&&◌, List, [], ◌∷◌, length, None, refl, ap, arith}
use Rattle.std.specs.{Prelude.is_some, List.list_all}
use Rattle.toml.specs.{Data.as_table, declared.value.Value.Value, View.view, View.items_view}
use Rattle.scenario_file.specs.Values.{are_tables, count_of, cell_of_items, priority_of_items}

-- each value is a table, asked of the values or of the items
pub all_tables : (vs : List Value) → list_all (λ v. is_some (as_table (view v))) vs ≡ are_tables (items_view vs)
all_tables [] = refl
all_tables (v ∷ vs) = ap (λ b. is_some (as_table (view v)) && b) (all_tables vs)

-- as many items as values
pub count_of_values : (vs : List Value) → count_of (items_view vs) ≡ length vs
count_of_values [] = refl
count_of_values (v ∷ vs) = ap suc (count_of_values vs)

-- a cell has two items
pub no_cell : (vs : List Value) → length vs ≢ 2 → cell_of_items (items_view vs) ≡ None
no_cell [] other = refl
no_cell (a ∷ []) other = refl
no_cell (a ∷ b ∷ []) other = absurd (other refl)
no_cell (a ∷ b ∷ c ∷ vs) other = refl

-- a priority list has one or two
pub no_priority : (vs : List Value) → 2 < length vs → priority_of_items (items_view vs) ≡ None
no_priority [] more = refl
no_priority (a ∷ []) more = absurd (omega arith)
no_priority (a ∷ b ∷ []) more = absurd (omega arith)
no_priority (a ∷ b ∷ c ∷ vs) more = refl
