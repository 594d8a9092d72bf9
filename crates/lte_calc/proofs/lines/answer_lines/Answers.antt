use Rattle.lte_calc.proofs.Running.{complete}
use Rattle.lte_calc.proofs.lines.answer_lines.Goals as goal

pub returns-clause-complete : goal.returns-clause-complete
returns-clause-complete g c = complete c.read_lines.result _ _ _ _ c.read_lines.ensures.run
