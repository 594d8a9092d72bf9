use Rattle.std.proofs.Common.{◌≡◌, ◌≤◌, fold, length}
use Rattle.cmac_eia2.specs.State.{absorbed}
use Rattle.cmac_eia2.proofs.state.State.absorb.Given as goal

abbrev pub invariant-loop-block : goal.invariant-loop-block
invariant-loop-block l =
    (fold absorbed l.self l.rest ≡ fold absorbed l.fn.self l.piece) × (l.self.filled ≤ 16)

abbrev pub decreases-loop-block : goal.decreases-loop-block
decreases-loop-block l = length l.rest
