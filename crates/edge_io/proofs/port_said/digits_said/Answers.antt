use Rattle.std.proofs.Common.{inr, rules}
use Rattle.edge_io.proofs.Numbers.{no_line}
use Rattle.edge_io.proofs.port_said.digits_said.Goals as goal

pub returns-clause-failed : goal.returns-clause-failed
returns-clause-failed g c =
    inr (record {
      octets = c.line.digits.items;
      taken = c.line.invariant.0;
      other = no_line c.line.digits.items c.line.invariant.1 (search rules);
    })
