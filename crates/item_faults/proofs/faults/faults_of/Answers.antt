use Rattle.item_faults.specs.{Faults.faults_of, Once.Once}
use Rattle.item_faults.proofs.{Answered.ok_of, EachOnce.faults_once}
use Rattle.item_faults.proofs.faults.faults_of.Goals as goal

pub returns-clause-once : goal.returns-clause-once
returns-clause-once c = λ named asked.
    ok_of (λ list. list.items) Once c.of_all.result (faults_of c.args.entries.now c.args.messages.now) c.of_all.ensures.faults
    (faults_once c.args.entries.now c.args.messages.now named asked)
