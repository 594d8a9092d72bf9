use Rattle.std.proofs.Common.{rules}
use Rattle.rec_base.proofs.Numbers.{same_from_number_of}
use Rattle.rec_base.proofs.fields.same_from_number.Goals as goal

pub returns : goal.returns
returns c =
    same_from_number_of _ _ c.requires.width (λ i. let octet = c.type_inv.a i in search rules)
    (λ i. let octet = c.type_inv.b i in search rules) c.requires.number
