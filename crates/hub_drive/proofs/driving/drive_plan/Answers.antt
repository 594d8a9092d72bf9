use Rattle.hub_drive.proofs.Planned.{nothing_driven}
use Rattle.hub_drive.proofs.driving.drive_plan.Goals as goal

pub returns-in-Err-clause-driven : goal.returns-in-Err-clause-driven
returns-in-Err-clause-driven g c =
    nothing_driven c.args.setup.now c.args.events.now.items (g.W.Edge.told c.args.out.now).written (g.P.Peers.told c.args.peers.now) c.requires.none
