use Rattle.std.proofs.Common.{◌≡◌, Some, rules}
use Rattle.ho_prep.specs.Prep.{at_air}
use Rattle.enb_context.proofs.AirSteps.{prep_absent, prep_other, prep_refused, prep_taken_so, first_is}
use Rattle.enb_context.proofs.station.Station.prep_air.Goals as goal

pub returns-in_default : goal.returns-in_default
returns-in_default c =
    prep_absent c.args.self.now c.args.air c.args.bearer c.args.pdu.now c.only.new.self c.requires.elsewhere (search rules) c.only.ensures

pub returns-then-not-is_srb1 : goal.returns-then-not-is_srb1
returns-then-not-is_srb1 c =
    prep_other c.args.self.now c.in-Some.prep.now c.args.air c.args.bearer c.args.pdu.now
    c.only-then-not-is_srb1.new.self c.requires.elsewhere (search rules) (search rules)
    c.only-then-not-is_srb1.ensures

pub returns-in-Err : goal.returns-in-Err
returns-in-Err c =
    rw (first_is c.args.bearer (search rules))
    (prep_refused c.args.self.now c.in-Some.prep.now c.args.air c.args.pdu.now c.in-Err.fault c.only-in-Err.new.self
    c.requires.elsewhere (search rules) (search rules) (search rules))

pub returns : goal.returns
returns c =
    let found : at_air c.args.air c.args.self.now.preps ≡ Some c.in-Some.prep.now = search rules in
    rw (first_is c.args.bearer (search rules))
    (prep_taken_so c.args.self.now c.in-Some.prep.now c.args.air c.args.pdu.now c.in-Ok.opened _ c.requires.elsewhere
    found (search rules) (c.take_prepared.ensures c.in-Some.prep.now found))
