use Rattle.std.proofs.Common.{rules}
use Rattle.refusal.specs.Refusal.{was_refused}
use Rattle.growth.proofs.lists.from_elem.Goals as goal

pub returns-clause-refused : goal.returns-clause-refused
returns-clause-refused c =
    let refused = was_refused c.args.len in
    search rules
