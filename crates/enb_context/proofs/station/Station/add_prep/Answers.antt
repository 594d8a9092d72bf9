use Rattle.std.proofs.Common.{◌≡◌, ◌<◌, ◌≤◌, ◌++◌, ◌∷◌, [], length, rules}
use Rattle.enb_context.proofs.PrepFacts.{none_above_push, added}
use Rattle.enb_context.proofs.station.Station.add_prep.Goals as goal

preps_are : (c : goal.After-add) → c.add.new.self ≡ c.self.inside.preps ++ c.args.prep ∷ []
preps_are c =
    let few : length c.self.inside.preps < 8 = search rules in
    added _ c.add.result c.add.ensures.full few c.add.ensures.ok

pub invariant_of-self : goal.invariant_of-self
invariant_of-self c =
    let i = c.self.invariant in
    let le : c.args.prep.conn ≤ c.self.inside.last = search rules in
    (i.0, i.1, i.2, rw (preps_are c) (none_above_push c.self.inside.last c.self.inside.preps c.args.prep i.3 le), i.4)

pub returns : goal.returns
returns c = rw (preps_are c) search rules
