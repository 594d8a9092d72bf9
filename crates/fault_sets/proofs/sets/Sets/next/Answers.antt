use Rattle.std.proofs.Common.{sym, ◌∙◌, false}
use Rattle.fault_sets.proofs.Few.{next_is}
use Rattle.fault_sets.proofs.sets.Sets.next.Goals as goal

pub returns-clause-next : goal.returns-clause-next
returns-clause-next c =
    let now = c.self.inside in
    sym c.self.view_is
    ∙ next_is now.over c.go_on.result now.count now.places c.go_on.new.places _ c.chosen-faults.result c.if-self.false c.chosen-faults.ensures
    c.go_on.ensures.some c.go_on.ensures.none (search (c.go_on.ensures.as_many))
