use Rattle.std.proofs.Common.{sym, subst}
use Rattle.fault_sets.specs.Laws.{AreAll}
use Rattle.fault_sets.proofs.All.{are_all}
use Rattle.fault_sets.proofs.sets.Sets.of.Goals as goal

pub returns-clause-all : goal.returns-clause-all
returns-clause-all c =
    subst (AreAll c.args.count c.args.faults.now) (sym c.begun.ensures) (are_all c.args.count c.args.faults.now)
