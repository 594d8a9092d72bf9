use Rattle.lte_properties.proofs.HeadlineHolds.{headline}
use Rattle.lte_properties.proofs.headline.the_headline_holds.Goals as goal

pub returns : goal.returns
returns c = record { ranges = headline }
