use Rattle.std.specs.Prelude.{◌≡◌, ℕ, true, List, Result, Ok, Err, IfOk}
use Rattle.std.proofs.Common.{ap, ◌∙◌}
use Rattle.edge_io.specs.Lines.{are_lines}
use Rattle.lte_calc.proofs.Ends.{answer_is_line}
use Rattle.lte_calc.proofs.lines.answer_of.Goals as goal

lines_of : {A E : Type 0} (result : Result A E) (text_in : A → List ℕ) (text : List ℕ) → are_lines text ≡ true
    → IfOk result (λ a. text_in a ≡ text) → IfOk result (λ a. are_lines (text_in a) ≡ true)
lines_of (Ok a) text_in text lines is = ap are_lines is ∙ lines
lines_of (Err e) text_in text lines is = tt

pub returns-clause-lines : goal.returns-clause-lines
returns-clause-lines c = lines_of c.answer_to.result _ _ (answer_is_line c.args.line.now) c.answer_to.ensures.text
