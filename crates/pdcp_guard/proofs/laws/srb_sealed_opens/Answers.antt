use Rattle.pdcp_guard.proofs.SrbFacts.{length-srb_sealed, srb_opened-near, srb_opened-srb_sealed, srb_opened_at-srb_sealed}
use Rattle.pdcp_guard.proofs.laws.srb_sealed_opens.Goals as goal

pub returns-clause-expected : goal.returns-clause-expected
returns-clause-expected c = srb_opened-srb_sealed

pub returns-clause-near : goal.returns-clause-near
returns-clause-near c = srb_opened-near

pub returns-clause-at_count : goal.returns-clause-at_count
returns-clause-at_count c = srb_opened_at-srb_sealed

pub returns-clause-length : goal.returns-clause-length
returns-clause-length c = length-srb_sealed
