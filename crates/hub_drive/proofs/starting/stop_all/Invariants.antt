use Rattle.std.proofs.Common.{◌≡◌, ℕ, ◌≤◌, ◌<◌, IfSome}
use Rattle.std.specs.Option.{option_map}
use Rattle.edge_io.specs.Peers.{IsRunning}
use Rattle.hub_drive.specs.Outside.{stopped_below}
use Rattle.hub_drive.proofs.starting.stop_all.Given as goal

abbrev pub invariant-loop-peer : goal.invariant-loop-peer
invariant-loop-peer g l =
    (g.P.Peers.told l.peers ≡ option_map (stopped_below l.peer) (g.P.Peers.told l.initial.peers))
    × IfSome (g.P.Peers.told l.peers) (λ t. (peer : ℕ) → l.peer ≤ peer → peer < l.count → IsRunning peer t)
    × (g.P.Peers.faults l.peers ≡ g.P.Peers.faults l.initial.peers)
