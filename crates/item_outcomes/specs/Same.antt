-- Whether all goes on as in the scenario.
use Rattle.std.specs.Prelude.{ℕ, ◌==◌, ◌&&◌, ◌||◌, Bool, not, List, length}
use Rattle.std.specs.List.{filter, list_all}
use Rattle.item_lines.specs.{Lines.line_of, Same.same_told, declared.lines.Told.Told}
use Rattle.item_outcomes.specs.Probe.{is_among}

-- SAME: each item has the same line here as in the scenario, but those of the fault itself, and there are as many lines
abbrev pub is_same : List ℕ → List Told → List Told → Told → Bool
is_same own usual here t = is_among own t.name || same_told (line_of t.name usual) (line_of t.name here)

abbrev pub others : List ℕ → List Told → ℕ
others own told = length (filter (λ t. not (is_among own t.name)) told)

abbrev pub same : List ℕ → List Told → List Told → Bool
same own usual here =
    others own usual == others own here && (list_all (is_same own usual here) usual && list_all (is_same own usual here) here)
