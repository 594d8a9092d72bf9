use Rattle.lte_machine.proofs.EventByEvent.{step_takes, step_happens, step_told, told_step}
use Rattle.lte_machine.proofs.by_event.each_line_is_that_of_its_step.Goals as goal

pub returns-clause-after : goal.returns-clause-after
returns-clause-after c = step_takes

pub returns-clause-happens : goal.returns-clause-happens
returns-clause-happens c = step_happens

pub returns-clause-line : goal.returns-clause-line
returns-clause-line c = step_told

pub returns-clause-step : goal.returns-clause-step
returns-clause-step c = told_step
