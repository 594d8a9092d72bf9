use Rattle.std.proofs.Common.{◌≡◌, ◌++◌, flat_map, drop}
use Rattle.trace_text.specs.Question as by
use Rattle.trace_text.proofs.family.push_all_at.Given as goal

abbrev pub invariant-loop-due : goal.invariant-loop-due
invariant-loop-due l =
    let each = by.moves_at l.sites l.firsts in
    l.out.items ++ flat_map each (drop l.due-index l.dues) ≡ l.fn.out.items ++ flat_map each l.dues
