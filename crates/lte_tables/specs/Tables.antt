-- All that the program writes.
use Rattle.std.specs.Prelude.{ℕ, List, ◌++◌}
use Rattle.lte_tables.specs.Answers.{answer_lines}
use Rattle.lte_tables.specs.Inputs.{input_lines}
use Rattle.lte_tables.specs.Outcomes.{fault_lines, heals_lines, message_lines, outcome_lines}
use Rattle.lte_tables.specs.Records.{record_lines}
use Rattle.lte_tables.specs.Scenario.{field_lines}
use Rattle.lte_tables.specs.Sends.{sends_lines}

unfoldable pub tables : List ℕ
tables =
    answer_lines
    ++ (record_lines ++ (input_lines ++ (message_lines ++ (sends_lines ++ (fault_lines ++ (outcome_lines ++ (heals_lines ++ field_lines)))))))
