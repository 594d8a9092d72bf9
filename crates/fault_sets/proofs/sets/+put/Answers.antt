use Rattle.std.proofs.Common.{sym, ◌∙◌}
use Rattle.fault_sets.proofs.Rest.{none, some}
use Rattle.fault_sets.proofs.sets.+put.Goals as goal

pub returns-in-Some-clause-some : goal.returns-in-Some-clause-some
returns-in-Some-clause-some t c is =
    some c.args.places.now (record { fault = c.in-Some.fault.now; rest = c.in-Some.rest }) c.put.new.places c.args.faults.now
    (sym c.is_empty.ensures ∙ c.if-is_empty.false) c.in-Some.ensures.cases.0 (c.put.ensures.some is) c.put.ensures.as_many

pub returns-in-Some-clause-none : goal.returns-in-Some-clause-none
returns-in-Some-clause-none t c is =
    none c.args.places.now (record { fault = c.in-Some.fault.now; rest = c.in-Some.rest }) c.args.faults.now
    (sym c.is_empty.ensures ∙ c.if-is_empty.false) c.in-Some.ensures.cases.0 (c.put.ensures.none is)
