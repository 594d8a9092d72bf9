use Rattle.std.proofs.Common.{◌++◌, codes, inr, rules}
use Rattle.edge_io.proofs.Numbers.{no_port}
use Rattle.edge_io.proofs.port_said.port_said.Goals as goal

pub returns-in-None-clause-failed : goal.returns-in-None-clause-failed
returns-in-None-clause-failed g c =
    inr (record {
      octets = c.in_ok-digits.digits.items ++ codes "\n";
      taken = search rules;
      other = no_port c.in_ok-digits.digits.items c.in_ok-digits.ensures.no_end (search rules);
    })
