-- A climb of a chain, step by step, and its length.
use Rattle.std.proofs.Common.{◌≡◌, ℕ, zero, suc, ◌+◌, ◌-◌, ◌%◌, ◌<◌, ◌≤◌, List, [], ◌∷◌, ◌++◌, map, refl, sym, ◌∙◌, ap, arith, mod-eq_of_lt}
use Rattle.std.proofs.{Math.Nat.mod-add-mod, lemmas.List.map-append}
use Rattle.key_model.specs.{Least.least, Reading.octet_reading, HandoverLines.nh_after, HandoverLines.steps_to, Derivation.nh_made, Derivation.derived_of}
use Rattle.key_model.proofs.LeastFacts.{least_is}
use Rattle.nh_chain.specs.Chain.{ChainState, climbed, stepped, number_after, nhs_made}

-- the steps between two NCCs
pub steps_between : (own ncc : ℕ) → own ≤ 7 → ncc ≤ 7 → (ncc + 8 - own) % 8 ≡ steps_to own ncc
unfolding least
steps_between own ncc h k =
    let small : own < 8 = omega arith in
    let same : own % 8 ≡ own = mod-eq_of_lt small in
    let sum : ncc + (8 - own % 8) ≡ ncc + 8 - own = omega (arith, same) in
    let counts = ap (λ n. n % 8) sum in
    omega (arith, counts)

-- one more step gives one number more
number_step : (own steps : ℕ) → octet_reading.plus (number_after octet_reading own steps) 1 ≡ number_after octet_reading own (suc steps)
number_step own zero = refl
number_step own (suc steps) =
    let sum : (own + suc steps) + 1 ≡ own + suc (suc steps) = omega arith in
    mod-add-mod (own + suc steps) 8 1 ∙ ap (λ n. n % 8) sum

-- one more step is a step of the chain
pub climbed_step : (chain : ChainState (List ℕ) ℕ) (steps : ℕ)
    → stepped octet_reading (climbed octet_reading chain steps) ≡ climbed octet_reading chain (suc steps)
climbed_step chain steps = λ k. record {
  root = chain.root;
  sync = nh_after octet_reading chain.root chain.sync (suc steps);
  number = number_step chain.number steps k;
}

-- the derivations of one more step
pub made_step : (root sync : List ℕ) (steps : ℕ)
    → map derived_of (nhs_made octet_reading root sync (suc steps))
    ≡ map derived_of (nhs_made octet_reading root sync steps)
    ++ derived_of (nh_made octet_reading root (nh_after octet_reading root sync steps)) ∷ []
made_step root sync steps =
    map-append derived_of (nhs_made octet_reading root sync steps)
    (nh_made octet_reading root (nh_after octet_reading root sync steps) ∷ [])

-- after the steps to an NCC the chain has it
pub climbed_number : (own ncc : ℕ) → own ≤ 7 → ncc ≤ 7 → number_after octet_reading own (steps_to own ncc) ≡ ncc
unfolding least
climbed_number own ncc h k = by_steps (steps_to own ncc) refl
  where
    there : (own + steps_to own ncc) % 8 ≡ ncc
    there =
        let l = least_is own ncc 8 (omega arith) in
        let sum : own + steps_to own ncc ≡ least own ncc 8 = omega (arith, l.at_or_above) in
        ap (λ n. n % 8) sum ∙ l.remainder

    by_steps : (steps : ℕ) → steps_to own ncc ≡ steps → number_after octet_reading own steps ≡ ncc
    by_steps zero e =
        let stays : own + steps_to own ncc ≡ own = omega arith in
        sym (mod-eq_of_lt (omega arith)) ∙ ap (λ n. n % 8) (sym stays) ∙ there
    by_steps (suc steps) e = ap (λ n. (own + n) % 8) (sym e) ∙ there
