use Rattle.key_model.proofs.HandoverFacts.{phone_line-terms}
use Rattle.key_model.proofs.handovers.term_lines_are_the_table.Goals as goal

pub returns-clause-phone : goal.returns-clause-phone
returns-clause-phone c = λ same r t n. phone_line-terms same r n t
