use Rattle.trace_rules.proofs.Telling.{told_is}
use Rattle.trace_rules.proofs.what_is_told_is_a_history.Goals as goal

pub returns : goal.returns
returns g c = λ moved fits covers bound start capture told h. told_is moved fits covers bound start capture told h
