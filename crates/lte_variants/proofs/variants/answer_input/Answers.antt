use Rattle.lte_variants.proofs.Running.{complete}
use Rattle.lte_variants.proofs.variants.answer_input.Goals as goal

pub returns-in-Err-clause-complete : goal.returns-in-Err-clause-complete
returns-in-Err-clause-complete g c =
    let out = g.W.Edge.told c.args.out.now in
    complete c.args.request.now c.in-Err.status (g.R.Edge.told c.args.input.now) (g.R.Edge.told c.read_text.new.input) out out
    (c.in-Err.ensures.unread c.args.request.now out)

pub returns-in-Err-clause-keys : goal.returns-in-Err-clause-keys
returns-in-Err-clause-keys g c = λ done. absurd (c.in-Err.ensures.not_done done)
