use Rattle.std.proofs.Common.{rules, ◌≡◌, ◌∙◌, ap, sym}
use Rattle.std.specs.Fmt.{decimal}
use Rattle.edge_io.proofs.Numbers.{decimal_text, decimal_reads, decimal_number}
use Rattle.edge_io.proofs.port_line.port_number.Goals as goal

pub returns-in_default-clause-none : goal.returns-in_default-clause-none
returns-in_default-clause-none c none n small same =
    c.in_default.ensures.cases.0 (decimal_text n c.args.digits.now small same)

pub returns-in_default-parse-clause-none : goal.returns-in_default-parse-clause-none
returns-in_default-parse-clause-none c none n small same =
    decimal_reads n c.in-Ok.text.now c.in_default-parse.field-0 small (c.in-Ok.ensures.cases.0 ∙ same) c.in_default-parse.ensures.value.0

pub returns-then-ne-clause-none : goal.returns-then-ne-clause-none
returns-then-ne-clause-none c none n small same =
    let is : c.in-Ok-parse.number ≡ n =
    decimal_number n c.in-Ok-parse.number c.in-Ok.text.now c.parse.result c.in-Ok-parse.is small (c.in-Ok.ensures.cases.0 ∙ same) c.parse.ensures.value.0 in
    let alike : c.as_bytes.result.now ≡ c.args.digits.now =
    c.as_bytes.ensures.value ∙ c.format.ensures.text ∙ ap decimal is ∙ sym same in
    search (rules, alike)
