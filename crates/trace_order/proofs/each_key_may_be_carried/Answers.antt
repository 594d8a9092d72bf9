use Rattle.std.proofs.Common.{ℕ, None, refl}
use Rattle.key_model.specs.{Term.Term, Value.value_of, Chain.ncc_of, Reading.term_reading, Reading.octet_reading}
use Rattle.key_model.proofs.ReadingFacts.{values_carry}
use Rattle.trace_keys.specs.Net.{Net}
use Rattle.trace_terms.proofs.Histories.{to_here}
use Rattle.trace_order.proofs.Carrying.{all_carry}
use Rattle.trace_order.proofs.each_key_may_be_carried.Goals as goal

pub returns : goal.returns
returns c = λ kasmes fits covers family bound left kasme count moves capture exact fam h.
    let net : Net Term ℕ = record { kasme = kasme; count = count; serving = None } in
    all_carry family kasmes fits covers exact bound left net moves capture fam tt
    (to_here term_reading octet_reading value_of ncc_of values_carry kasmes fits covers bound left _ net moves capture refl h)
