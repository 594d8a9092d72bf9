use Rattle.std.proofs.{Common.rules, lemmas.Iterator.Splits.YieldsList-from_slice_split}
use Rattle.text_lines.specs.Words.{is_space}
use Rattle.text_lines.proofs.Collected.{collected}
use Rattle.text_lines.proofs.words.all_words.Goals as goal

pub returns-clause-words : goal.returns-clause-words
returns-clause-words c =
    collected _ c.collect.ensures.ran
    (YieldsList-from_slice_split _ is_space c.args.line.now c.split.ensures.rest c.split.ensures.done c.split.ensures.closure (search rules))
