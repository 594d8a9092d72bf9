use Rattle.std.proofs.Common.{ap, ◌∙◌, arith}
use Rattle.rrc_rec.specs.Reading.{read_rrc}
use Rattle.rrc_rec.proofs.Laws.{found_in, spelled_is_read}
use Rattle.rrc_rec.proofs.records.RrcRecord.read.Goals as goal

pub returns-clause-found : goal.returns-clause-found
returns-clause-found c = found_in c.args.octets.now c.record_of.result (λ i. omega (arith, c.type_inv.octets i)) c.record_of.ensures

pub returns-clause-only : goal.returns-clause-only
returns-clause-only c = λ r fits e. c.record_of.ensures ∙ ap read_rrc e ∙ spelled_is_read r fits
