use Rattle.std.proofs.Common.{Err, ap, sym, ◌∙◌}
use Rattle.calc_text.proofs.HeadFaults.{no_mac_fault}
use Rattle.calc_text.proofs.nas_answering.any_nas.Goals as goal

pub returns-in-Err-MacFails-clause-line : goal.returns-in-Err-MacFails-clause-line
returns-in-Err-MacFails-clause-line c =
    absurd (no_mac_fault 0 c.args.pdu.now c.in-Err-MacFails.field-0-0 c.in-Err-MacFails.field-0-1 c.in-Err-MacFails.field-0-2
    (sym c.nas_head.ensures.value ∙ c.in-Err-MacFails.is ∙ ap Err c.in-Err-MacFails.field-0-is))
