use Rattle.std.proofs.Common.{◌≡◌, ◌<◌, ◌≤◌, ◌++◌, ◌∷◌, [], length, arith, rules}
use Rattle.ho_prep.specs.Prep.{drop_below}
use Rattle.enb_context.specs.Preps.{NoneAbove}
use Rattle.enb_context.proofs.PrepFacts.{none_above_drop, none_above_push, drop_below_room, within_higher, added}
use Rattle.enb_context.proofs.station.Station.prepare.Goals as goal

above : (c : goal.After-add) → c.self.inside.last ≤ c.prep.inside.conn
above c = search rules

preps_are : (c : goal.After-add) → c.add.new.self ≡ drop_below c.prep.inside.conn c.self.inside.preps ++ c.args.prep ∷ []
preps_are c =
    let room : c.prep.inside.conn ≡ c.self.inside.last → length c.self.inside.preps < 8 = search rules in
    let few : length (drop_below c.prep.inside.conn c.self.inside.preps) < 8 =
    drop_below_room c.self.inside.last c.prep.inside.conn c.self.inside.preps c.self.invariant.3 (above c) c.drop_below.ensures.at_most_eight room in
    let new : length c.drop_below.new.self < 8 = rw c.drop_below.ensures.kept few in
    rw (← c.drop_below.ensures.kept) (added _ c.add.result c.add.ensures.full new c.add.ensures.ok)

pub invariant_of-self : goal.invariant_of-self
invariant_of-self c =
    let le : c.prep.inside.conn ≤ c.prep.inside.conn = omega arith in
    let dropped : NoneAbove c.prep.inside.conn (drop_below c.prep.inside.conn c.self.inside.preps) =
    none_above_drop c.self.inside.last c.prep.inside.conn c.self.inside.preps c.self.invariant.3 (above c) in (
      c.self.invariant.0,
      omega arith,
      omega arith,
      rw (preps_are c) (none_above_push c.prep.inside.conn _ c.args.prep dropped (search rules)),
      within_higher c.self.inside.last c.prep.inside.conn c.self.inside.context c.self.invariant.4 (above c),
    )

pub returns : goal.returns
returns c = rw (preps_are c) search rules
