use Rattle.std.proofs.Common.{◌≡◌, ◌++◌, flat_map, drop}
use Rattle.trace_text.specs.Question as by
use Rattle.trace_text.proofs.family.push_all_to.Given as goal

abbrev pub invariant-loop-site : goal.invariant-loop-site
invariant-loop-site l =
    let each = by.moves_to l.air in
    l.out.items ++ flat_map each (drop l.site-index l.sites) ≡ l.fn.out.items ++ flat_map each l.sites
