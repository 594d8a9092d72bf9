use Rattle.std.proofs.Common.{refl, arith}
use Rattle.std.proofs.lemmas.Fmt.{decimal_digit}
use Rattle.hex.specs.Hex.{encode_with}
use Rattle.rec_base.specs.BigEndian.{octets_of}
use Rattle.report_text.specs.Details.{caps_text, mac_text}
use Rattle.lte_tables.specs.Answers.{answer_lines}
use Rattle.lte_tables.proofs.answers.answer_lines.Goals as goal

pub returns-clause-lines : goal.returns-clause-lines
unfolding answer_lines caps_text mac_text octets_of encode_with
returns-clause-lines c = rw (decimal_digit 0 (omega arith), decimal_digit 1 (omega arith)) refl
