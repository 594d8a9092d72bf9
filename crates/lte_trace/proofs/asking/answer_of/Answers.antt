use Rattle.std.specs.Prelude.{◌≡◌, ℕ, true, List, Result, Ok, Err, IfOk}
use Rattle.edge_io.specs.Lines.{are_lines}
use Rattle.lte_trace.specs.{declared.answer.Ends.Ends, Answer.IsAnswer}
use Rattle.lte_trace.proofs.Ends.{answer_is}
use Rattle.lte_trace.proofs.asking.answer_of.Goals as goal

lines_of : {A E : Type 0} (octets : List ℕ) (result : Result A E) (end : A → Ends) (text : A → List ℕ)
    → IfOk result (λ a. IsAnswer octets (end a) (text a))
    → IfOk result (λ a. are_lines (text a) ≡ true)
lines_of octets (Ok a) end text is = answer_is octets (end a) (text a) is
lines_of octets (Err e) end text is = tt

pub returns-clause-lines : goal.returns-clause-lines
returns-clause-lines c = lines_of c.args.octets.now c.answered.result _ _ c.answered.ensures.answer
