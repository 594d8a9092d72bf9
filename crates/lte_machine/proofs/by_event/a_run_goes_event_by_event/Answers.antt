use Rattle.lte_machine.proofs.EventByEvent.{replay_snoc, tale_snoc, told_each, told_at, prefix_goes_on, ends_at}
use Rattle.lte_machine.proofs.by_event.a_run_goes_event_by_event.Goals as goal

pub returns-clause-replay_snoc : goal.returns-clause-replay_snoc
returns-clause-replay_snoc g c = replay_snoc

pub returns-clause-tale_snoc : goal.returns-clause-tale_snoc
returns-clause-tale_snoc g c = tale_snoc

pub returns-clause-told_each : goal.returns-clause-told_each
returns-clause-told_each g c = told_each

pub returns-clause-told_at : goal.returns-clause-told_at
returns-clause-told_at g c = told_at

pub returns-clause-prefix : goal.returns-clause-prefix
returns-clause-prefix g c = prefix_goes_on

pub returns-clause-ends : goal.returns-clause-ends
returns-clause-ends g c = ends_at
