use Rattle.std.proofs.Common.{rules}
use Rattle.hub_drive.proofs.Places.{stop_next, others_run}
use Rattle.hub_drive.proofs.starting.stop_all.Goals as goal

pub loop-peer-preserved : goal.loop-peer-preserved
loop-peer-preserved g c = (
  stop_next c.loop-peer.peer _ _ _ c.loop-peer.invariant.0 c.stop.ensures.told,
  others_run c.loop-peer.peer _ _ c.args.count c.stop.ensures.told c.loop-peer.invariant.1,
  search rules,
)
