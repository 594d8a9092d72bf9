use Rattle.edge_io.proofs.Ending.{is_lines, text_is}
use Rattle.run_report.proofs.Ends.{coincidence_ends}
use Rattle.run_report.proofs.reports.write_coincidence.Goals as goal

pub write_text-requires-clause-lines : goal.write_text-requires-clause-lines
write_text-requires-clause-lines g c = text_is _ _ _ c.chance.ensures.text (is_lines _ (coincidence_ends _ _))

pub returns : goal.returns
returns g c = c.write_text.ensures _ c.chance.ensures.text
