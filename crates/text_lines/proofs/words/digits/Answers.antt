use Rattle.text_lines.proofs.Numerals.{numeral_is_text}
use Rattle.text_lines.proofs.words.digits.Goals as goal

pub unwrap-requires : goal.unwrap-requires
unwrap-requires c = numeral_is_text c.args.word.now c.from_utf8.result _ _ c.requires c.from_utf8.ensures.cases
