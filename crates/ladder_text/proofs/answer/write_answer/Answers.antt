use Rattle.std.proofs.Common.{Ok, sym, ap, subst, ◌∙◌}
use Rattle.std.proofs.lemmas.Result.{IfOk-at_ok}
use Rattle.ladder_text.specs.{Report.output_of, Report.Writes, Text.reading_of}
use Rattle.ladder_text.proofs.Answering.{lines_output, refused_output, read_never_refused}
use Rattle.ladder_text.proofs.answer.write_answer.Goals as goal

pub returns-in-Ok-clause-output : goal.returns-in-Ok-clause-output
returns-in-Ok-clause-output g c =
    let reading = IfOk-at_ok _ c.in-Ok.ensures.read.0 c.read_lines.ensures.lines in
    subst (λ o. Writes (output_of (reading_of c.args.text.now)) c.write_report.result (g.W.Edge.told o)
    (g.W.Edge.told c.write_report.new.out))
    c.in-Ok.ensures.read.1
    (lines_output c.args.text.now _ c.write_report.result _ _ (reading ∙ ap Ok (sym c.deref.ensures.value)) c.write_report.ensures.output)

pub returns-in-Ok-clause-no_refusal : goal.returns-in-Ok-clause-no_refusal
returns-in-Ok-clause-no_refusal g c memory refused =
    absurd (read_never_refused c.args.text.now c.in-Ok.lines.items (IfOk-at_ok _ c.in-Ok.ensures.read.0 c.read_lines.ensures.lines) refused)

pub returns-in-Err-clause-output : goal.returns-in-Err-clause-output
returns-in-Err-clause-output g c =
    refused_output c.read_lines.result c.args.text.now c.in-Err.ending _ _ c.read_lines.ensures.bad c.in-Err.ensures.refused
