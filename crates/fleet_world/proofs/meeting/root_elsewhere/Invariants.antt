use Rattle.std.proofs.Common.{◌≡◌, ℕ, ◌<◌, false}
use Rattle.fleet_world.specs.{Meeting.has_root, Meeting.ladder_at, Worlds.others_in}
use Rattle.fleet_world.proofs.meeting.root_elsewhere.Given as goal

abbrev pub invariant-loop-number : goal.invariant-loop-number
invariant-loop-number l = (k : ℕ) → k < l.number → has_root l.octets (ladder_at (others_in l.phone l.worlds) k) ≡ false
