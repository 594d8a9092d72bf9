use Rattle.enb_context.proofs.PrepFacts.{all_found_within}
use Rattle.enb_context.proofs.station.Station.take_only.Goals as goal

pub returns-clause-within : goal.returns-clause-within
returns-clause-within c =
    rw (← c.self.view_is) (all_found_within c.self.inside.last c.args.air c.self.inside.preps c.take_air-prep.result
    c.take_air-prep.ensures.value c.self.invariant.3)
