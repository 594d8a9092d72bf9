use Rattle.std.specs.String.{string_bytes}
use Rattle.edge_io.proofs.Ending.{is_lines, text_is}
use Rattle.ladder_text.proofs.Ends.{row_ends}
use Rattle.ladder_text.proofs.report.write_row.Goals as goal

pub write_text-requires-clause-line : goal.write_text-requires-clause-line
write_text-requires-clause-line g c = text_is string_bytes _ _ c.row_line-text.ensures.text (is_lines _ (row_ends _ _ _))
