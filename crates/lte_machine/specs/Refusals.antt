-- Faults of the layers below as answers of an actor.
use Rattle.lte_events.specs.{declared.answers.Answer.Answer, declared.answers.Answer.TheVariants.MacFails}
use Rattle.lte_events.specs.declared.answers.Answer as answers
use Rattle.pdcp_guard.specs.declared.pdus.PdcpFault.{PdcpFault}
use Rattle.pdcp_guard.specs.declared.pdus.PdcpFault as faults

abbrev pub of_pdcp : PdcpFault → Answer
of_pdcp faults.TheVariants.Short = answers.TheVariants.Short
of_pdcp (faults.TheVariants.BadHeader octet) = answers.TheVariants.BadHeader octet
of_pdcp faults.TheVariants.CountSpent = answers.TheVariants.CountSpent
of_pdcp (faults.TheVariants.MacFails count wanted got) = answers.TheVariants.MacFails count wanted got
