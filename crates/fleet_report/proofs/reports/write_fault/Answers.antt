use Rattle.edge_io.proofs.Ending.{text_is}
use Rattle.fleet_report.proofs.Ends.{fault_is}
use Rattle.fleet_report.proofs.reports.write_fault.Goals as goal

pub write_text-requires-clause-lines : goal.write_text-requires-clause-lines
write_text-requires-clause-lines g c = text_is _ _ _ c.fault_text.ensures.text (fault_is c.args.step c.args.own c.args.fault)

pub returns-clause-text : goal.returns-clause-text
returns-clause-text g c differs = c.write_text.ensures _ c.fault_text.ensures.text
