use Rattle.std.proofs.Common.{◌≡◌, ◌++◌, flat_map, drop}
use Rattle.trace_text.specs.Question as by
use Rattle.trace_text.proofs.family.push_moves_at.Given as goal

abbrev pub invariant-loop-early : goal.invariant-loop-early
invariant-loop-early l =
    let each = by.begun_at l.sites l.due in
    l.out.items ++ flat_map each (drop l.early-index l.firsts) ≡ l.fn.out.items ++ flat_map each l.firsts
