use Rattle.std.specs.Io.KnownBytes.{Keeps}
use Rattle.edge_io.specs.Tries.{Interruptions}
use Rattle.edge_io.proofs.writer_sink.write_once.Given as goal

abbrev pub invariant-loop-tries : goal.invariant-loop-tries
invariant-loop-tries g l =
    Keeps (g.W.Writer.contents l.initial.writer) (g.W.Writer.contents l.writer)
    × Interruptions (g.W.Writer.answers l.piece) l._tries l.initial.writer l.writer
