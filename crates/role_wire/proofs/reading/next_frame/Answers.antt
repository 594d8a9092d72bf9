use Rattle.std.proofs.Common.{◌≡◌, take, subst, sym, arith}
use Rattle.std.proofs.lemmas.List.{take_all}
use Rattle.edge_io.specs.Octets.{Gives}
use Rattle.role_wire.proofs.FrameLaws.{joined}
use Rattle.role_wire.proofs.reading.next_frame.Goals as goal

pub returns-clause-read : goal.returns-clause-read
returns-clause-read g c =
    let head = c.read_fill.new.buf in
    let all : take c.in-Ok.count head ≡ head = take_all c.in-Ok.count head (omega arith) in
    let first = subst (Gives (g.S.Edge.told c.args.src.now).left (g.S.Edge.told c.read_fill.new.src).left) all c.in-Ok.ensures.octets in
    joined _ _ _ _ _ _ head c.length_of-size.result first (omega arith) (sym c.length_of-size.ensures.value)
    c.length_of-size.ensures.octets (omega arith) c.read_body.ensures.read
