use Rattle.std.proofs.Common.{sym, ◌∙◌}
use Rattle.text_lines.proofs.Cutting.{lines_at_feed, lines_without_feed}
use Rattle.text_lines.proofs.lines.first_line.Goals as goal

pub returns-in-Some-clause-lines : goal.returns-in-Some-clause-lines
returns-in-Some-clause-lines c = lines_at_feed c.args.text.now c.in-Some.end (sym c.first_feed.ensures.feed ∙ c.in-Some.is)

pub returns-in-None-clause-lines : goal.returns-in-None-clause-lines
returns-in-None-clause-lines c = lines_without_feed c.args.text.now c.requires (sym c.first_feed.ensures.feed ∙ c.in-None.is)
