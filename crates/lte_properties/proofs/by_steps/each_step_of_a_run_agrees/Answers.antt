use Rattle.lte_properties.proofs.StepByStep.{step_tells, makes_tell, takes_tell, follows, step_completed}
use Rattle.lte_properties.proofs.by_steps.each_step_of_a_run_agrees.Goals as goal

pub returns-clause-told : goal.returns-clause-told
returns-clause-told c = step_tells

pub returns-clause-makes : goal.returns-clause-makes
returns-clause-makes c = makes_tell

pub returns-clause-takes : goal.returns-clause-takes
returns-clause-takes c = takes_tell

pub returns-clause-follows : goal.returns-clause-follows
returns-clause-follows c = follows

pub returns-clause-completed : goal.returns-clause-completed
returns-clause-completed c = step_completed
