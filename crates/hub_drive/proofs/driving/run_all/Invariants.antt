use Rattle.std.proofs.Common.{◌≡◌, drop, length}
use Rattle.edge_io.specs.{Cause.NoFault, Used.UsedAsSink}
use Rattle.lte_machine.specs.Run.{Running, first_world}
use Rattle.lte_world.specs.Whole.{run_of}
use Rattle.run_report.proofs.HappenedSoFar.{Took}
use Rattle.hub_drive.specs.{Exchanges.roles_of, Outside.AllRun, Outside.outside, Plan.events_plan}
use Rattle.hub_drive.proofs.Planned.{PlanGoing}
use Rattle.hub_drive.proofs.driving.run_all.Given as goal

abbrev pub invariant-loop-number : goal.invariant-loop-number
invariant-loop-number g l = record {
  plan : PlanGoing (events_plan l.fn.setup 0 (Running (first_world l.fn.setup)) l.events.items)
      (events_plan l.fn.setup l.number (run_of l.world) (drop l.number l.events.items))
      (outside (g.W.Edge.told l.initial.out).written (g.P.Peers.told l.initial.peers)) (outside (g.W.Edge.told l.out).written (g.P.Peers.told l.peers));
  took : Took l.fn.setup l.number l.world;
  running : AllRun (length (roles_of l.fn.setup)) (g.P.Peers.told l.peers);
  no_peer_fault : g.P.Peers.faults l.peers ≡ g.P.Peers.faults l.initial.peers;
  no_fault : NoFault (g.W.Edge.told l.initial.out) (g.W.Edge.told l.out);
  out : UsedAsSink (g.W.Edge.told l.initial.out) (g.W.Edge.told l.out);
}
