use Rattle.pdcp_guard.proofs.CountFacts.{send_counts-rise}
use Rattle.pdcp_guard.proofs.laws.sending_counts_rise.Goals as goal

pub returns-clause-send : goal.returns-clause-send
returns-clause-send c = send_counts-rise
