use Rattle.std.proofs.Common.{rules}
use Rattle.hub_drive.proofs.Places.{station_seed}
use Rattle.hub_drive.proofs.setting_up.seed_at.Goals as goal

pub returns-in_default : goal.returns-in_default
returns-in_default c =
    station_seed c.args.setup.now c.as_slice.result.now c.copied-cells.result c.args.peer _ c.as_slice.ensures.value
    c.copied-cells.ensures c.index-as_slice-peer.is (search rules) (search rules) c.requires
