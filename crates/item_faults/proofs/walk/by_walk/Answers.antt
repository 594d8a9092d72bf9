use Rattle.std.proofs.Common.{◌∙◌, ◌-◌, take, drop, length, sym, arith}
use Rattle.item_faults.specs.{Faults.of_message, Walk.of_here}
use Rattle.item_faults.proofs.InOneWalk.{goes_on, here_is, none_is}
use Rattle.item_faults.proofs.walk.by_walk.Goals as goal

pub returns-in-Some-clause-faults : goal.returns-in-Some-clause-faults
returns-in-Some-clause-faults c =
    let all = c.args.entries.now in
    let within = c.in-Some.ensures.within in
    goes_on c.of_here.result c.of_here.new.faults.items (of_here c.args.message (take (length all - c.in-Some.at) (drop c.in-Some.at all)) c.args.faults.now.items)
    (of_message all c.args.message c.args.faults.now.items) c.of_here.ensures.faults
    (here_is c.args.message c.in-Some.at all c.args.faults.now.items c.requires (sym c.place_of.ensures.place ∙ c.in-Some.is) (omega (arith, within)))

pub returns-in-None-clause-faults : goal.returns-in-None-clause-faults
returns-in-None-clause-faults c =
    sym (none_is c.args.message c.args.entries.now c.args.faults.now.items (sym c.place_of.ensures.place ∙ c.in-None.is))
