use Rattle.std.proofs.Common.{sym}
use Rattle.edge_io.proofs.Ending.{last_found}
use Rattle.edge_io.proofs.lines.ends_line.Goals as goal

pub returns-in-Some : goal.returns-in-Some
returns-in-Some c = sym (last_found c.args.octets.now c.in-Some.octet.now c.in-Some.ensures.value)
