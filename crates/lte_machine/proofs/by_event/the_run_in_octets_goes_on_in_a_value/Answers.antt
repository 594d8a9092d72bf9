use Rattle.lte_machine.proofs.EventByEvent.{written_still, step_of_value}
use Rattle.lte_machine.proofs.by_event.the_run_in_octets_goes_on_in_a_value.Goals as goal

pub returns-clause-written_still : goal.returns-clause-written_still
returns-clause-written_still c = written_still

pub returns-clause-step : goal.returns-clause-step
returns-clause-step c = step_of_value
