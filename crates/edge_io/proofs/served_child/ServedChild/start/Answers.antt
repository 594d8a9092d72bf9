use Rattle.std.proofs.{Common.rules, lemmas.Result.err_from_is_err_and}
use Rattle.edge_io.proofs.Served.{not_served}
use Rattle.edge_io.proofs.served_child.ServedChild.start.Goals as goal

pub returns-in_err-connection-clause-failed : goal.returns-in_err-connection-clause-failed
returns-in_err-connection-clause-failed g c =
    let p = err_from_is_err_and c.from_residual.result c.from_residual.ensures.1 in rw (p.1, p.2) (λ fault is.
    not_served _ _ _ _ _ (g.H.Network.connects c.start.new.self) _ _ _ _ _ _ fault (search rules)
    c.in_err-connection.ensures.ended (search rules) (c.in_err-connection.ensures.failed fault is))
