use Rattle.std.proofs.Common.{ℕ, ◌+◌, refl, sym, subst, rules}
use Rattle.edge_io.specs.Tries.{Interruptions}
use Rattle.edge_io.proofs.Trying.{interruptions_none, interruptions_more}
use Rattle.edge_io.proofs.reader_source.read_once.Goals as goal

pub loop-tries-init : goal.loop-tries-init
loop-tries-init g c = (search rules, interruptions_none _ _)

pub loop-tries-preserved : goal.loop-tries-preserved
loop-tries-preserved g c =
    let After : ℕ → Type 0 = λ size. Interruptions (g.R.Reader.answers size) (c.loop-tries._tries + 1) c.args.reader.now c.try_read.new.self in (
      search rules,
      subst After (sym c.try_read.auto.buf)
          (interruptions_more _ c.loop-tries._tries _ c.loop-tries.reader _ c.in-Err.e c.loop-tries.invariant.1
          c.in-Err.ensures.answers (c.if-not-is_interrupted.ensures.0 refl)),
    )
