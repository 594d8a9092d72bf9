use Rattle.core_relocation.proofs.Promised.{two_headline}
use Rattle.core_relocation.proofs.laws.two_cores_keep_the_headline.Goals as goal

pub returns : goal.returns
returns c = two_headline
