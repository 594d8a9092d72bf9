use Rattle.pdu_guard.proofs.Agreement.{drb_counts_agree, drb_opens_agree, drb_pdus_agree, nas_opens_agree, nas_pdus_agree, srb_opens_agree, srb_pdus_agree}
use Rattle.pdu_guard.proofs.agreeing.agree.Goals as goal

pub returns-clause-nas_pdus : goal.returns-clause-nas_pdus
returns-clause-nas_pdus c = nas_pdus_agree c.args.dir

pub returns-clause-nas_opens : goal.returns-clause-nas_opens
returns-clause-nas_opens c = nas_opens_agree c.args.dir

pub returns-clause-srb_pdus : goal.returns-clause-srb_pdus
returns-clause-srb_pdus c = srb_pdus_agree c.args.bearer c.args.dir

pub returns-clause-srb_opens : goal.returns-clause-srb_opens
returns-clause-srb_opens c = srb_opens_agree c.args.bearer c.args.dir

pub returns-clause-drb_pdus : goal.returns-clause-drb_pdus
returns-clause-drb_pdus c = drb_pdus_agree c.args.bearer c.args.dir

pub returns-clause-drb_counts : goal.returns-clause-drb_counts
returns-clause-drb_counts c = drb_counts_agree

pub returns-clause-drb_opens : goal.returns-clause-drb_opens
returns-clause-drb_opens c = drb_opens_agree c.args.bearer c.args.dir
