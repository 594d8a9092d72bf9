use Rattle.std.proofs.Common.{◌≡◌, ℕ, Option, List, drop, length}
use Rattle.hub_drive.proofs.Composing.{Going}
use Rattle.hub_drive.specs.Exchanges.{roles_of, starts}
use Rattle.hub_drive.specs.Outside.{AllRun, HasStarted, outside}
use Rattle.hub_drive.proofs.starting.start_all.Given as goal

abbrev pub invariant-loop-peer : goal.invariant-loop-peer
invariant-loop-peer g l =
    ((written : Option (List ℕ))
    → Going (starts (roles_of l.setup)) (starts (drop l.peer (roles_of l.setup)))
    (outside written (g.P.Peers.told l.initial.peers)) (outside written (g.P.Peers.told l.peers)))
    × AllRun l.peer (g.P.Peers.told l.peers)
    × HasStarted l.peer (g.P.Peers.told l.peers)
    × (g.P.Peers.faults l.peers ≡ g.P.Peers.faults l.initial.peers)
    × (l.count ≡ length (roles_of l.setup))
