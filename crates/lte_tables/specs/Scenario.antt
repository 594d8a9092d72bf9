-- The lines of the words of a scenario: its keys, and what may happen in a step.
use Rattle.std.specs.Prelude.{◌≡◌, ℕ, List, [], ◌∷◌, ◌++◌, Some, codes}
use Rattle.std.specs.List.{flat_map}
use Rattle.scenario_file.specs.{declared.fields.Field.Field, Field.name_of}
use Rattle.scenario_file.specs.declared.fields.Field.TheVariants as field
use Rattle.lte_tables.specs.Outcomes.{word_line}

abbrev pub fields : List Field
fields =
    field.Phone ∷ field.Core ∷ field.Station ∷ field.Step ∷ field.Caps ∷ field.Priority ∷ field.First ∷ field.FirstNcc ∷ field.Id ∷ field.Cells
    ∷ field.Do ∷ field.Ksi ∷ field.Kasme ∷ field.Cell ∷ field.Record ∷ field.From ∷ field.Bearer ∷ field.Text ∷ field.Who ∷ field.N ∷ field.To
    ∷ field.Air ∷ field.Octets ∷ field.Fleet ∷ field.Phones ∷ []

-- `field first_ncc`
unfoldable pub field_lines : List ℕ
field_lines = flat_map (λ f. word_line (codes "field") (name_of f)) fields
