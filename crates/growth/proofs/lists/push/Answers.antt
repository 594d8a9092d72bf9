use Rattle.std.proofs.Common.{rules, ◌+◌, vec_len}
use Rattle.refusal.specs.Refusal.{was_refused}
use Rattle.growth.proofs.lists.push.Goals as goal

pub returns-clause-refused : goal.returns-clause-refused
returns-clause-refused g c =
    let refused = was_refused (vec_len c.args.items.now + 1) in
    search rules
