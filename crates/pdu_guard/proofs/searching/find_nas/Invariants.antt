use Rattle.std.proofs.Common.{◌≡◌, None}
use Rattle.pdu_guard.specs.Search.{first_true, nas_right}
use Rattle.pdu_guard.proofs.searching.find_nas.Given as goal

abbrev pub invariant-loop-overflow : goal.invariant-loop-overflow
invariant-loop-overflow l = first_true (nas_right l.keys l.dir l.pdu) l.overflow ≡ None
