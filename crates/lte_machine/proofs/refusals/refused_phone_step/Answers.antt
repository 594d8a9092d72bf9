use Rattle.lte_machine.proofs.PhoneRefused.{phone_refused, phone_refused_sends}
use Rattle.lte_machine.proofs.refusals.refused_phone_step.Goals as goal

pub returns-clause-state : goal.returns-clause-state
returns-clause-state g c = phone_refused

pub returns-clause-sends : goal.returns-clause-sends
returns-clause-sends g c = phone_refused_sends
