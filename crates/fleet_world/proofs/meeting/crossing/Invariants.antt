use Rattle.std.proofs.Common.{◌≡◌, drop}
use Rattle.fleet_world.specs.{Meeting.meeting_from, Meeting.ladder_at, Worlds.ladders_in, Worlds.others_in}
use Rattle.fleet_world.proofs.meeting.crossing.Given as goal

abbrev pub invariant-loop-number : goal.invariant-loop-number
invariant-loop-number l =
    meeting_from (others_in l.phone l.worlds) l.first (drop l.first (ladder_at (ladders_in l.worlds) l.phone))
    ≡ meeting_from (others_in l.phone l.worlds) l.number (drop l.number (ladder_at (ladders_in l.worlds) l.phone))
