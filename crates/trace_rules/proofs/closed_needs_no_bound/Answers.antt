use Rattle.trace_rules.proofs.Widening.{never}
use Rattle.trace_rules.proofs.Members.{in_none}
use Rattle.trace_rules.proofs.closed_needs_no_bound.Goals as goal

pub returns : goal.returns
returns g c = λ moved fits covers family bound start capture closed none any moves fam h.
    never moved fits covers family bound start capture closed (λ z i. in_none z _ none i) any moves fam h
