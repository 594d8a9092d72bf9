use Rattle.std.proofs.Common.{length, arith}
use Rattle.key_model.specs.Reading.{octet_reading}
use Rattle.trace_keys.specs.Moved.{moved}
use Rattle.trace_rules.proofs.Coverage.{less_is_shown}
use Rattle.trace_plain.specs.Sights.{fits, is_covered}
use Rattle.trace_plain.proofs.Dark.{covered_alike}
use Rattle.trace_plain.proofs.search.fewer_links_explain_too.Goals as goal

pub returns : goal.returns
returns c = λ kasmes more fewer bound start moves capture less h.
    less_is_shown (moved octet_reading kasmes) fits (is_covered more) (is_covered fewer) (λ x. less x.at) (covered_alike fewer) bound (length moves)
    bound start moves capture h (length moves) (omega arith) (omega arith)
