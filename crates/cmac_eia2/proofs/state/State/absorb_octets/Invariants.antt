use Rattle.std.proofs.Common.{◌≡◌, ◌≤◌, fold, take}
use Rattle.cmac_eia2.specs.State.{absorbed}
use Rattle.cmac_eia2.proofs.state.State.absorb_octets.Given as goal

abbrev pub invariant-loop-octet : goal.invariant-loop-octet
invariant-loop-octet l =
    (l.self ≡ fold absorbed l.initial.self (take l.octet-index l.octets)) × (l.self.filled ≤ 16)
