use Rattle.std.proofs.Common.{rules}
use Rattle.lte_world.proofs.replies.Replies.station.Goals as goal

pub returns : goal.returns
returns c = record {
  out = c.station_at.new.told.1;
  steps = c.station_at.ensures.steps;
  is = search rules;
}
