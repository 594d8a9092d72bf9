use Rattle.std.proofs.Common.{◌≡◌, subst, rules}
use Rattle.std.specs.Prelude.{IfOk}
use Rattle.run_report.specs.Written.{WritesText}
use Rattle.fleet_report.specs.Lines.{phone_text}
use Rattle.edge_io.specs.Lines.{EndsLine}
use Rattle.edge_io.proofs.Ending.{is_lines, text_is}
use Rattle.fleet_report.proofs.Ends.{phone_ends}
use Rattle.fleet_report.proofs.reports.write_line.Goals as goal

pub write_text-requires-clause-lines : goal.write_text-requires-clause-lines
write_text-requires-clause-lines g c =
    let ends : EndsLine c.deref.result.now = search rules in
    text_is _ _ _ c.phone_text.ensures.text (is_lines _ (phone_ends c.args.phone c.deref.result.now ends))

pub returns-in-Ok : goal.returns-in-Ok
returns-in-Ok g c octets is =
    let at : c.in-Ok.line.items ≡ octets = subst (λ r. IfOk r (λ t. t.items ≡ octets)) c.in-Ok.is is in
    let same : c.deref.result.now ≡ octets = cc (at, c.deref.ensures.value) in
    subst (λ o. WritesText {A = Unit {0}} (phone_text c.args.phone o) c.write_text.result (g.W.Edge.told c.args.out.now)
    (g.W.Edge.told c.write_text.new.out))
    same (c.write_text.ensures _ c.phone_text.ensures.text)
