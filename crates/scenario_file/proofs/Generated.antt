-- How many steps the turns of a generated scenario have.
use Rattle.std.proofs.Common.{◌≡◌, ℕ, zero, suc, ◌+◌, ◌≤◌, [], ◌++◌, length, take, refl, sym, ◌∙◌, arith, subst, inl, inr, add-one}
use Rattle.std.proofs.lemmas.List.{length-append, take-append-le, length-take, length-take-le}
use Rattle.std.proofs.lemmas.Bool.{cases_lt}
use Rattle.scenario_file.specs.{declared.turns.Turn.Turn, FirstSteps.Taken, FirstSteps.with_steps}
use Rattle.scenario_file.specs.declared.turns.Turn.TheVariants.{Uplink, Downlink, OverX2, OverS1, Within}
use Rattle.scenario_file.specs.Draws.{turn_of, after, steps_of, opening, journey_at, steps_up_to, generated}

opening_length : length opening ≡ 8
unfolding opening
opening_length = refl

two_at_least : (turn : Turn) → 2 ≤ length (steps_of turn)
two_at_least (Uplink text) = omega arith
two_at_least (Downlink s text) = omega arith
two_at_least (OverX2 from to answered) = omega arith
two_at_least (OverS1 from to) = omega arith
two_at_least (Within s) = omega arith

pub many : (seed k : ℕ) → k + 8 ≤ length (steps_up_to seed k)
many seed zero = omega (arith, opening_length)
many seed (suc k) = omega (
  arith,
  many seed k,
  two_at_least (turn_of (journey_at seed k)),
  length-append (steps_up_to seed k) (steps_of (turn_of (journey_at seed k))),
)

-- one turn more
pub next_steps : (seed k : ℕ) → steps_up_to seed (k + 1) ≡ steps_up_to seed k ++ steps_of (turn_of (journey_at seed k))
next_steps seed k = rw (add-one k) refl

pub next_journey : (seed k : ℕ) → journey_at seed (k + 1) ≡ after (journey_at seed k)
next_journey seed k = rw (add-one k) refl

-- turns behind the first n steps change nothing of them
settled : (n seed k j : ℕ)
    → k ≤ j
    → n ≤ length (steps_up_to seed k)
    → (n ≤ length (steps_up_to seed j)) × (take n (steps_up_to seed j) ≡ take n (steps_up_to seed k))
settled n seed zero zero before enough = (enough, refl)
settled n seed (suc k) zero before enough = absurd (omega (arith, before))
settled n seed k (suc j) before enough = elim (cases_lt j k) [
  | inl last ↦
      let same : k ≡ suc j = omega (arith, before, last) in
      subst (λ i. (n ≤ length (steps_up_to seed i)) × (take n (steps_up_to seed i) ≡ take n (steps_up_to seed k))) same (enough, refl)
  | inr within ↦
      let rest = settled n seed k j within enough in
      let turn = steps_of (turn_of (journey_at seed j)) in
      (omega (arith, rest.0, length-append (steps_up_to seed j) turn), take-append-le n (steps_up_to seed j) turn rest.0 ∙ rest.1)
]

-- the steps of so many turns, cut to n
abbrev cut_at : ℕ → ℕ → ℕ → Taken
cut_at n seed k = with_steps (record { steps = []; most = n }) (steps_up_to seed k)

pub all_taken : (n seed k : ℕ) → k ≤ n → n ≤ length (steps_up_to seed k) → (cut_at n seed k).steps ≡ generated n seed
unfolding with_steps generated
all_taken n seed k before enough = sym (settled n seed k n before enough).1

pub enough_where_full : (n seed k : ℕ) → length (cut_at n seed k).steps ≡ (cut_at n seed k).most → n ≤ length (steps_up_to seed k)
unfolding with_steps
enough_where_full n seed k full = omega (arith, full, length-take n (steps_up_to seed k))

pub enough_at_last : (n seed k : ℕ) → n ≤ k → n ≤ length (steps_up_to seed k)
enough_at_last n seed k last = omega (arith, last, many seed k)

pub generated_length : (n seed : ℕ) → length (generated n seed) ≡ n
unfolding generated
generated_length n seed = length-take-le n (steps_up_to seed n) (enough_at_last n seed n (omega arith))
