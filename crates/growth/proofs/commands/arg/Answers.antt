use Rattle.std.proofs.Common.{rules}
use Rattle.refusal.specs.Refusal.{was_refused}
use Rattle.growth.proofs.commands.arg.Goals as goal

pub returns-in_err-arg-clause-refused : goal.returns-in_err-arg-clause-refused
returns-in_err-arg-clause-refused g c =
    let refused = was_refused 0 in
    search rules
