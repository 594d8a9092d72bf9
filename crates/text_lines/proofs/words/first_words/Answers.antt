use Rattle.std.proofs.Common.{rules, ap, ◌∙◌}
use Rattle.std.specs.Slice.Iter.{split_rest, split_done, split_callee}
use Rattle.std.proofs.{lemmas.Iterator.YieldsList-from_take, lemmas.Iterator.Splits.YieldsList-from_slice_split}
use Rattle.text_lines.specs.Words.{is_space}
use Rattle.text_lines.proofs.Collected.{collected}
use Rattle.text_lines.proofs.words.first_words.Goals as goal

pub returns-clause-words : goal.returns-clause-words
returns-clause-words c =
    let source = c.take.ensures.source in
    collected _ c.collect.ensures.ran (YieldsList-from_take c.args.most
    (YieldsList-from_slice_split _ is_space c.args.line.now (ap split_rest source ∙ c.split.ensures.rest)
    (ap split_done source ∙ c.split.ensures.done) (ap split_callee source ∙ c.split.ensures.closure) (search rules))
    c.take.ensures.count)
