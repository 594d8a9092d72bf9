use Rattle.fleet_report.proofs.{Holding.holds, Looping.all_in_range}
use Rattle.fleet_report.proofs.laws.no_phone_sees_another.Goals as goal

pub returns : goal.returns
returns c setup phones events is of_phone are = holds setup phones events is (all_in_range phones events of_phone are)
