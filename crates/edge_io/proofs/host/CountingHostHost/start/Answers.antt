use Rattle.std.proofs.Common.{rules}
use Rattle.refusal.specs.Refusal.{was_refused}
use Rattle.edge_io.proofs.host.CountingHostHost.start.Goals as goal

pub returns-clause-memory : goal.returns-clause-memory
returns-clause-memory g c =
    let refused = was_refused 0 in
    search rules
