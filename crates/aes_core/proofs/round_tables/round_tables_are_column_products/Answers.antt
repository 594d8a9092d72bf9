use Rattle.aes_core.proofs.WordLemmas.{entry_0, entry_1, entry_2, entry_3}
use Rattle.aes_core.proofs.round_tables.round_tables_are_column_products.Goals as goal

pub returns-clause-row_0 : goal.returns-clause-row_0
returns-clause-row_0 c = entry_0

pub returns-clause-row_1 : goal.returns-clause-row_1
returns-clause-row_1 c = entry_1

pub returns-clause-row_2 : goal.returns-clause-row_2
returns-clause-row_2 c = entry_2

pub returns-clause-row_3 : goal.returns-clause-row_3
returns-clause-row_3 c = entry_3
