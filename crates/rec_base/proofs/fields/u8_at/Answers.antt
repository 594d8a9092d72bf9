use Rattle.std.proofs.Common.{◌≤◌, length, drop, sym, ◌∙◌, arith, length-drop, add-zero}
use Rattle.std.proofs.lemmas.List.{get_or-drop}
use Rattle.rec_base.specs.BigEndian.{field_at, number_at}
use Rattle.rec_base.proofs.Numbers.{number_of-one}
use Rattle.rec_base.proofs.fields.u8_at.Goals as goal

pub returns-clause-number : goal.returns-clause-number
unfolding field_at number_at
returns-clause-number c =
    let field = drop c.args.place c.args.octets.now in
    let within : 1 ≤ length field = omega (arith, length-drop c.args.place c.args.octets.now) in
    let read = rw add-zero at (get_or-drop c.args.place c.args.octets.now 0 0) in
    sym (number_of-one field within ∙ read)
