use Rattle.lte_machine.proofs.StationRefused.{station_refused}
use Rattle.lte_machine.proofs.refusals.refused_station_step.Goals as goal

pub returns : goal.returns
returns g c = station_refused
