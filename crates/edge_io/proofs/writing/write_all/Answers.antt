use Rattle.std.proofs.Common.{◌∙◌, rules}
use Rattle.edge_io.proofs.{Ending.lines_kept, Ending.pieces_kept, Known.grows_on}
use Rattle.edge_io.proofs.writing.write_all.Goals as goal

pub pieces-preserved : goal.pieces-preserved
pieces-preserved g c = (
  search rules,
  grows_on _ _ _ c.pieces.sent c.in_ok-sent.field-0 c.args.octets.now c.pieces.invariant.1 c.in_ok-sent.ensures.octets,
  search rules,
  search rules,
  search rules,
  search rules,
  λ ends. c.write.ensures.lines ∙ lines_kept _ c.pieces.sent c.args.octets.now (search rules) ends ∙ c.pieces.invariant.6 ends,
  c.write.ensures.pieces ∙ pieces_kept _ c.pieces.sent c.args.octets.now (search rules) ∙ c.pieces.invariant.7,
  search rules,
)

pub returns-in_err-sent-clause-lines : goal.returns-in_err-sent-clause-lines
returns-in_err-sent-clause-lines g c =
    λ ends. c.write.ensures.lines ∙ lines_kept _ c.pieces.sent c.args.octets.now (search rules) ends ∙ c.pieces.invariant.6 ends

pub returns-in_err-sent-clause-pieces : goal.returns-in_err-sent-clause-pieces
returns-in_err-sent-clause-pieces g c = c.write.ensures.pieces ∙ pieces_kept _ c.pieces.sent c.args.octets.now (search rules) ∙ c.pieces.invariant.7
