use Rattle.trace_rules.proofs.Search.{history_found}
use Rattle.trace_rules.proofs.Members.{in_none}
use Rattle.trace_rules.proofs.no_net_no_history.Goals as goal

pub returns : goal.returns
returns g c = λ moved fits covers family bound start capture none moves fam h.
    let some = history_found moved fits covers family bound start moves capture h fam in
    in_none some.0 _ none some.1
