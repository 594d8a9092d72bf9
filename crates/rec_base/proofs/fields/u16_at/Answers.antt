use Rattle.std.proofs.Common.{◌≤◌, length, drop, sym, ◌∙◌, arith, length-drop}
use Rattle.std.proofs.lemmas.List.{take_rest}
use Rattle.rec_base.specs.BigEndian.{field_at, number_at}
use Rattle.rec_base.proofs.Numbers.{number_of-two}
use Rattle.rec_base.proofs.fields.u16_at.Goals as goal

pub returns : goal.returns
unfolding field_at number_at
returns c =
    let field = drop c.args.place c.args.octets.now in
    let within : 2 ≤ length field = omega (arith, length-drop c.args.place c.args.octets.now) in
    let read = rw (take_rest c.args.octets.now c.args.place) at c.read_u16.ensures in
    read ∙ sym (number_of-two field within)
