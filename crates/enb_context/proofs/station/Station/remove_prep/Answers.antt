use Rattle.enb_context.proofs.PrepFacts.{none_above_without}
use Rattle.enb_context.proofs.station.Station.remove_prep.Goals as goal

pub invariant_of-self : goal.invariant_of-self
invariant_of-self c =
    let i = c.self.invariant in
    (i.0, i.1, i.2, rw c.remove.ensures.others (none_above_without c.self.inside.last c.args.source c.args.attempt c.self.inside.preps i.3), i.4)
