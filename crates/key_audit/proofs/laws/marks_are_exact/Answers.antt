use Rattle.key_audit.specs.Local.{exact_mark}
use Rattle.key_audit.proofs.Exactness.{marks_right, marks_nearest, exact_marks_fit}
use Rattle.key_audit.proofs.laws.marks_are_exact.Goals as goal

pub returns : goal.returns
returns c = record {
  can = λ rows s k ladder within. marks_right rows ladder (exact_mark rows s) s (exact_marks_fit rows ladder s) k within;
  from = λ rows s k from ladder within is. marks_nearest rows ladder (exact_mark rows s) s (exact_marks_fit rows ladder s) k from within is;
}
