use Rattle.std.proofs.Common.{◌≡◌, ◌++◌, take, drop, slice_index}
use Rattle.keystream.specs.Combined.{combined}
use Rattle.ctr_eea2.proofs.combine.Given as goal

abbrev pub invariant-loop-i : goal.invariant-loop-i
invariant-loop-i l =
    l.piece ≡ combined (slice_index l.stream) 0 (take l.i l.initial.piece) ++ drop l.i l.initial.piece
