use Rattle.std.proofs.Common.{length, arith}
use Rattle.trace_rules.proofs.Coverage.{less_is_shown}
use Rattle.trace_rules.proofs.coverage_is_monotone.Goals as goal

pub returns : goal.returns
returns g c = λ moved fits more fewer bound start moves capture less same h.
    less_is_shown moved fits more fewer less same bound (length moves) bound start moves capture h (length moves) (omega arith) (omega arith)
