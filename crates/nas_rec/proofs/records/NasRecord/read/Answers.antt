use Rattle.std.proofs.Common.{ap, ◌∙◌, arith}
use Rattle.nas_rec.specs.Reading.{read_nas}
use Rattle.nas_rec.proofs.Laws.{found_in, spelled_is_read}
use Rattle.nas_rec.proofs.records.NasRecord.read.Goals as goal

pub returns-clause-found : goal.returns-clause-found
returns-clause-found c = found_in c.args.octets.now c.record_of.result (λ i. omega (arith, c.type_inv.octets i)) c.record_of.ensures

pub returns-clause-only : goal.returns-clause-only
returns-clause-only c = λ r fits e. c.record_of.ensures ∙ ap read_nas e ∙ spelled_is_read r fits
