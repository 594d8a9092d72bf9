use Rattle.std.proofs.Common.{◌≡◌, ◌++◌, drop}
use Rattle.report_text.specs.Ladder.{rows_from, ladder_text}
use Rattle.report_text.proofs.ladders.ladder_text.Given as goal

abbrev pub invariant-loop-k : goal.invariant-loop-k
invariant-loop-k l = l.text.items ++ rows_from l.ladder.rows l.k (drop l.k l.ladder.rows) ≡ ladder_text l.ladder.rows
