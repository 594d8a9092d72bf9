use Rattle.std.proofs.Common.{ℕ, None, refl}
use Rattle.key_model.specs.{Term.Term, Value.value_of, Chain.ncc_of, Reading.term_reading, Reading.octet_reading}
use Rattle.key_model.proofs.ReadingFacts.{values_carry}
use Rattle.trace_keys.specs.Net.{Net}
use Rattle.trace_terms.proofs.Histories.{to_here}
use Rattle.trace_order.proofs.Belonging.{all_made}
use Rattle.trace_order.proofs.keys_are_made_of_the_kenb.Goals as goal

pub returns : goal.returns
returns c = λ kasmes fits covers family bound left kasme count moves capture exact tapped fam h.
    let net : Net Term ℕ = record { kasme = kasme; count = count; serving = None } in
    all_made covers kasmes fits exact family tapped bound left net moves capture None fam tt
    (to_here term_reading octet_reading value_of ncc_of values_carry kasmes fits covers bound left _ net moves capture refl h)
