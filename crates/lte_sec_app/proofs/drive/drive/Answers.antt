use Rattle.lte_sec_app.proofs.Driving.{unread, unread_complete}
use Rattle.lte_sec_app.proofs.drive.drive.Goals as goal

pub returns-in-Err-clause-at : goal.returns-in-Err-clause-at
returns-in-Err-clause-at g c =
    unread c.in-Err.status (g.R.Edge.told c.args.input.now) (g.R.Edge.told c.read_text.new.input)
    (g.W.Edge.told c.args.out.now) (g.P.Peers.told c.args.peers.now)
    c.in-Err.ensures.which c.in-Err.ensures.unread

pub returns-in-Err-clause-complete : goal.returns-in-Err-clause-complete
returns-in-Err-clause-complete g c =
    unread_complete c.in-Err.status (g.R.Edge.told c.args.input.now) (g.R.Edge.told c.read_text.new.input)
    (g.W.Edge.told c.args.out.now) (g.P.Peers.told c.args.peers.now)
    (g.P.Peers.faults c.args.peers.now) c.in-Err.ensures.which c.in-Err.ensures.unread
