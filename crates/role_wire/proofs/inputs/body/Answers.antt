use Rattle.std.proofs.Common.{arith}
use Rattle.role_wire.proofs.FrameLaws.{found_in}
use Rattle.role_wire.proofs.inputs.body.Goals as goal

pub returns-clause-found : goal.returns-clause-found
returns-clause-found c =
    found_in c.args.role c.args.first c.args.octets.now c.body_of.result c.requires.role (λ i. omega (arith, c.type_inv.octets i)) c.body_of.ensures.value
