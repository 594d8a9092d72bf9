use Rattle.std.proofs.Common.{refl, rules}
use Rattle.edge_io.proofs.Trying.{interruptions_none, interruptions_more}
use Rattle.edge_io.proofs.writer_sink.write_once.Goals as goal

pub loop-tries-init : goal.loop-tries-init
loop-tries-init g c = (search rules, interruptions_none _ _)

pub loop-tries-preserved : goal.loop-tries-preserved
loop-tries-preserved g c = (
  search rules,
  interruptions_more _ c.loop-tries._tries _ c.loop-tries.writer _ c.in-Err.e c.loop-tries.invariant.1
      c.in-Err.ensures.answers (c.if-not-is_interrupted.ensures.0 refl),
)
