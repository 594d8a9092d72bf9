use Rattle.std.proofs.Common.{◌∙◌, sym, subst, Ok, Some, None}
use Rattle.std.specs.String.{string_bytes}
use Rattle.edge_io.proofs.Ending.{text_is}
use Rattle.run_report.specs.Written.{WritesText}
use Rattle.lte_variants.proofs.{Ends.message_is, Telling.line_is, Telling.none_of_it}
use Rattle.lte_variants.proofs.report.write_message.Goals as goal

pub write_string-requires-clause-lines : goal.write_string-requires-clause-lines
write_string-requires-clause-lines g c = text_is string_bytes _ _ c.message_line.ensures.text (message_is _ _)

pub returns-in-Some : goal.returns-in-Some
returns-in-Some g c =
    subst (λ t. WritesText {A = Unit {0}} t c.write_string.result (g.W.Edge.told c.args.out.now) (g.W.Edge.told c.write_string.new.out))
    (line_is c.args.steps.now c.args.number (Some c.in-Some.message) (sym c.in-Some.is ∙ c.message_at.ensures))
    (c.write_string.ensures _ c.message_line.ensures.text)

pub returns-in-None : goal.returns-in-None
returns-in-None g c =
    subst (λ t. WritesText {A = Unit {0}} t (Ok (tt {0})) (g.W.Edge.told c.args.out.now) (g.W.Edge.told c.args.out.now))
    (line_is c.args.steps.now c.args.number None (sym c.in-None.is ∙ c.message_at.ensures)) (none_of_it c.requires)
