use Rattle.std.proofs.Common.{◌≡◌, ◌≤◌, [], length}
use Rattle.text_lines.specs.Lines.{lines_of}
use Rattle.ladder_text.specs.Text.{rows_of, reading_of, reading_from, AreGood}
use Rattle.ladder_text.proofs.text.read_lines.Given as goal

abbrev pub invariant-loop-rest : goal.invariant-loop-rest
invariant-loop-rest l = record {
  reading : reading_of l.text ≡ reading_from l.lines.items (lines_of l.rest);
  rows : l.rows ≡ rows_of l.lines.items;
  good : AreGood [] l.lines.items;
  few : length l.lines.items ≤ 4096;
}

abbrev pub decreases-loop-rest : goal.decreases-loop-rest
decreases-loop-rest l = length l.rest
