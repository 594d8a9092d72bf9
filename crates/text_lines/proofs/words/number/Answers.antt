use Rattle.std.proofs.Common.{◌≡◌, true, false, sym, subst, ◌∙◌, rules}
use Rattle.std.specs.Str.Parse.{ParsesUnsigned}
use Rattle.text_lines.specs.Words.{is_numeral}
use Rattle.text_lines.proofs.Numerals.{parsed, no_numeral}
use Rattle.text_lines.proofs.words.number.Goals as goal

pub returns-then-not-is_numeral : goal.returns-then-not-is_numeral
returns-then-not-is_numeral c = let no : is_numeral c.args.word.now ≡ false = search rules in sym (no_numeral c.args.word.now no)

pub returns : goal.returns
returns c =
    let yes : is_numeral c.args.word.now ≡ true = search rules in
    let parse = subst (λ text. ParsesUnsigned 32 10 text c.parse.result) c.digits.ensures c.parse.ensures.value.0 in
    c.ok.ensures.value ∙ parsed c.args.word.now c.parse.result yes parse
