use Rattle.std.proofs.Common.{rules}
use Rattle.refusal.specs.Refusal.{was_refused}
use Rattle.toml_text.proofs.table_from_slice.Goals as goal

pub returns-clause-memory : goal.returns-clause-memory
returns-clause-memory c =
    let refused = was_refused 0 in
    search rules
