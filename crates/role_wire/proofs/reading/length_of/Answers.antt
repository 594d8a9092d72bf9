use Rattle.std.proofs.Common.{sym, ap, ◌∙◌, arith}
use Rattle.rec_base.specs.BigEndian.{field_at, number_at, octets_of}
use Rattle.rec_base.proofs.Numbers.{number_of-two}
use Rattle.role_wire.proofs.FrameLaws.{length_is}
use Rattle.role_wire.proofs.reading.length_of.Goals as goal

pub returns-clause-value : goal.returns-clause-value
unfolding field_at number_at
returns-clause-value c = c.read_u16.ensures ∙ sym (number_of-two c.args.head.now (omega (arith, c.requires)))

pub returns-clause-octets : goal.returns-clause-octets
returns-clause-octets c =
    length_is c.args.head.now c.requires (λ i. omega (arith, c.type_inv.head i)) ∙ ap (octets_of 2) (sym (returns-clause-value c))
