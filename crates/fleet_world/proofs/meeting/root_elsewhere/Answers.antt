use Rattle.std.proofs.Common.{sym, ◌∙◌, arith}
use Rattle.fleet_world.specs.{Meeting.has_root, Worlds.others_in}
use Rattle.fleet_world.proofs.Searching.{others_length, first_is, none_is}
use Rattle.fleet_world.proofs.meeting.root_elsewhere.Goals as goal

pub returns-then-has_root : goal.returns-then-has_root
returns-then-has_root c =
    let worlds = c.args.worlds.now in
    let many = others_length c.args.phone worlds in
    sym (first_is (has_root c.args.octets.now) (others_in c.args.phone worlds) c.loop-number.number (omega (arith, many, c.loop-number-test.true))
    (sym c.has_root.ensures ∙ c.if-has_root.true) c.loop-number.invariant)

pub returns : goal.returns
returns c =
    let worlds = c.args.worlds.now in
    let many = others_length c.args.phone worlds in
    sym (none_is (has_root c.args.octets.now) (others_in c.args.phone worlds) c.loop-number.number
    (omega (arith, many, c.loop-number-test.false)) c.loop-number.invariant)
