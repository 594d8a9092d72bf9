use Rattle.std.proofs.Common.{rules}
use Rattle.hub_drive.proofs.Places.{station_role}
use Rattle.hub_drive.proofs.starting.role_at.Goals as goal

pub returns-in_default : goal.returns-in_default
returns-in_default c =
    station_role c.args.setup.now c.as_slice.result.now c.args.peer _ c.as_slice.ensures.value (search rules) (search rules) c.requires
