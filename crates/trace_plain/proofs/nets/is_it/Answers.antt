use Rattle.std.proofs.Common.{◌≡◌, ◌∙◌, false, sym, rules}
use Rattle.trace_keys.specs.{Marks.mark_of, Marks.same_mark}
use Rattle.trace_plain.proofs.Marking.{two_nets}
use Rattle.trace_plain.proofs.nets.is_it.Goals as goal

pub returns-else-same_mark : goal.returns-else-same_mark
returns-else-same_mark c =
    let differ : same_mark (mark_of c.args.other.now) (mark_of c.args.net.now) ≡ false = search rules in
    let fails : c.same_mark.result ≡ false = search rules in
    fails ∙ sym (two_nets c.args.other.now c.args.net.now differ)
