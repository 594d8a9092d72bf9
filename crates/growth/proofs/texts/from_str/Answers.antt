use Rattle.std.proofs.Common.{rules, length}
use Rattle.refusal.specs.Refusal.{was_refused}
use Rattle.growth.proofs.texts.from_str.Goals as goal

pub returns-clause-refused : goal.returns-clause-refused
returns-clause-refused c =
    let refused = was_refused (length c.args.text.now) in
    search rules
