use Rattle.pdcp_guard.proofs.SentFacts.{sent-from_next, sent-rise}
use Rattle.pdcp_guard.proofs.laws.no_count_is_sent_twice.Goals as goal

pub returns-clause-rise : goal.returns-clause-rise
returns-clause-rise c = sent-rise

pub returns-clause-from_next : goal.returns-clause-from_next
returns-clause-from_next c = sent-from_next
