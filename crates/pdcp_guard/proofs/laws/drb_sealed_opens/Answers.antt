use Rattle.pdcp_guard.proofs.DrbFacts.{length-drb_sealed, drb_opened-near, drb_opened-drb_sealed, drb_opened_at-drb_sealed}
use Rattle.pdcp_guard.proofs.laws.drb_sealed_opens.Goals as goal

pub returns-clause-expected : goal.returns-clause-expected
returns-clause-expected c = drb_opened-drb_sealed

pub returns-clause-near : goal.returns-clause-near
returns-clause-near c = drb_opened-near

pub returns-clause-at_count : goal.returns-clause-at_count
returns-clause-at_count c = drb_opened_at-drb_sealed

pub returns-clause-length : goal.returns-clause-length
returns-clause-length c = length-drb_sealed
