use Rattle.std.proofs.Common.{rules}
use Rattle.refusal.specs.Refusal.{was_refused}
use Rattle.growth.proofs.maps.insert.Goals as goal

pub returns-clause-refused : goal.returns-clause-refused
returns-clause-refused g c =
    let refused = was_refused 0 in
    search rules
