use Rattle.hub_drive.proofs.Gone.{all_stopped}
use Rattle.hub_drive.proofs.laws.all_are_stopped.Goals as goal

pub returns : goal.returns
returns c = all_stopped
