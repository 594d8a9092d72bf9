use Rattle.lte_sec_app.specs.Text.{text_output}
use Rattle.lte_sec_app.proofs.Running.{complete}
use Rattle.lte_sec_app.proofs.text.answer_text.Goals as goal

pub returns-in-Err-clause-complete : goal.returns-in-Err-clause-complete
returns-in-Err-clause-complete g c =
    let out = g.W.Edge.told c.args.out.now in
    complete (text_output c.args.command) c.in-Err.status (g.R.Edge.told c.args.input.now)
    (g.R.Edge.told c.read_text.new.input) out out (c.in-Err.ensures.unread (text_output c.args.command) out)
