use Rattle.std.proofs.Common.{Some, ◌∷◌, [], ◌++◌, map, ◌∙◌, sym, ap, arith, add-one}
use Rattle.std.proofs.lemmas.List.Elements.{All-push}
use Rattle.hmac_kdf.specs.Kdf.{IsKdfInput}
use Rattle.key_model.specs.{Reading.octet_reading, Derivation.nh_made, Derivation.derived_of}
use Rattle.nh_chain.specs.Chain.{nhs_made, stepped}
use Rattle.nh_chain.proofs.ClimbFacts.{climbed_step, made_step}
use Rattle.nh_chain.proofs.chain.Chain.climb.Goals as goal

pub loop-preserved : goal.loop-preserved
loop-preserved c =
    let inv = c.loop.invariant in
    let start = c.args.self.now in
    let turns = c.loop.counter in
    let made = nhs_made octet_reading start.root start.sync turns in
    let chain = c.step-nh.ensures.chain ∙ ap (λ s. stepped octet_reading s) inv.0 ∙ climbed_step start turns in
    let derived = c.step-nh.ensures.derived ∙ ap (λ s. derived_of (nh_made octet_reading s.root s.sync)) inv.0 in
    let items = c.push.ensures.items ∙ ap (λ xs. xs ++ c.step-nh.result.1 ∷ []) inv.2 ∙ ap (λ d. map derived_of made ++ d ∷ []) derived in
    let inputs = All-push (λ d. IsKdfInput d.input) c.loop.made.items c.step-nh.result.1 inv.4 c.step-nh.ensures.input in
    rw (add-one turns) (
      chain,
      ap (λ nh. Some nh) (c.step-nh.ensures.nh ∙ ap (λ s. s.sync) chain),
      items ∙ sym (made_step start.root start.sync turns),
      c.push.ensures.len ∙ omega (arith, inv.3),
      rw c.push.ensures.items inputs,
    )
