use Rattle.std.proofs.Common.{◌≡◌, ℕ, Option, List, drop, length}
use Rattle.hub_drive.proofs.Composing.{Going}
use Rattle.hub_drive.specs.{Exchanges.roles_of, Exchanges.replied, Outside.AllRun, Outside.outside}
use Rattle.hub_drive.proofs.telling.tell_all.Given as goal

abbrev pub invariant-loop-input : goal.invariant-loop-input
invariant-loop-input g l =
    ((written : Option (List ℕ))
    → Going (replied l.setup l.step l.replies) (replied l.setup l.step (drop l.input-index l.replies))
    (outside written (g.P.Peers.told l.initial.peers)) (outside written (g.P.Peers.told l.peers)))
    × AllRun (length (roles_of l.setup)) (g.P.Peers.told l.peers)
    × (g.P.Peers.faults l.peers ≡ g.P.Peers.faults l.initial.peers)
