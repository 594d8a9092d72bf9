use Rattle.edge_io.proofs.Running.{running_started, running_sent, running_taken}
use Rattle.edge_tests.proofs.edges.exchange.Goals as goal

pub receive-requires : goal.receive-requires
receive-requires g c =
    running_sent c.in-Ok.peer c.in-Ok.peer _ _ _
    (running_started _ c.in-Ok.peer _ _ c.in-Ok.ensures.place (g.met.P.Peers.idle c.args.peers.now) c.in-Ok.ensures.told)
    c.in_ok-send.ensures.all

pub stop-requires : goal.stop-requires
stop-requires g c =
    running_taken c.in-Ok.peer c.in-Ok.peer _ _ _
    (running_sent c.in-Ok.peer c.in-Ok.peer _ _ _
    (running_started _ c.in-Ok.peer _ _ c.in-Ok.ensures.place (g.met.P.Peers.idle c.args.peers.now) c.in-Ok.ensures.told)
    c.in_ok-send.ensures.all)
    c.in_ok-receive.ensures.taken
