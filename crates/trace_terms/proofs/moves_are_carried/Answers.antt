use Rattle.trace_terms.proofs.Carry.{moved_map}
use Rattle.trace_terms.proofs.moves_are_carried.Goals as goal

pub returns : goal.returns
returns g c = λ r q f h carries kasmes net move. moved_map r q f h carries kasmes net move
