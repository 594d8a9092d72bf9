use Rattle.pdu_guard.proofs.AmFacts.{am_discarded, am_kept}
use Rattle.pdu_guard.proofs.window.am_window.Goals as goal

pub returns-clause-kept : goal.returns-clause-kept
returns-clause-kept c = am_kept

pub returns-clause-discarded : goal.returns-clause-discarded
returns-clause-discarded c = am_discarded
