use Rattle.std.proofs.Common.{sym, ap, ◌∙◌}
use Rattle.fleet_world.specs.Meeting.{has_root}
use Rattle.fleet_world.proofs.Searching.{own_is_empty, no_root}
use Rattle.fleet_world.proofs.meeting.has_root.Goals as goal

pub returns-then-number-phone : goal.returns-then-number-phone
returns-then-number-phone c =
    sym (ap (has_root c.args.octets.now)
    (own_is_empty c.args.phone c.args.number c.args.worlds.now c.if-number-phone.true c.requires.stands)
    ∙ no_root c.args.octets.now)
