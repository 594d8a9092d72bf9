use Rattle.std.proofs.Common.{length}
use Rattle.std.specs.Io.KnownBytes.{Keeps}
use Rattle.edge_io.specs.Tries.{Interruptions}
use Rattle.edge_io.proofs.reader_source.read_once.Given as goal

abbrev pub invariant-loop-tries : goal.invariant-loop-tries
invariant-loop-tries g l =
    Keeps (g.R.Reader.remaining l.initial.reader) (g.R.Reader.remaining l.reader)
    × Interruptions (g.R.Reader.answers (length l.buf)) l._tries l.initial.reader l.reader
