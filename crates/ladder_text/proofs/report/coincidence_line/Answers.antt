use Rattle.std.specs.String.{string_bytes}
use Rattle.edge_io.proofs.Ending.{is_lines, text_is}
use Rattle.ladder_text.proofs.Ends.{root_ends, rows_end}
use Rattle.ladder_text.proofs.report.coincidence_line.Goals as goal

pub returns-in-Root-clause-line : goal.returns-in-Root-clause-line
returns-in-Root-clause-line c = text_is string_bytes _ _ c.root_coincidence.ensures.text (is_lines _ (root_ends _ _))

pub returns-in-Derivation-clause-line : goal.returns-in-Derivation-clause-line
returns-in-Derivation-clause-line c = text_is string_bytes _ _ c.rows_coincidence.ensures.text (is_lines _ (rows_end _ _ _ _))
