-- The first steps of a scenario, taken a few at a time.
use Rattle.std.proofs.Common.{◌≡◌, ℕ, zero, suc, ◌+◌, ◌≤◌, List, [], ◌∷◌, ◌++◌, length, take, negsuc, refl, ap, ◌∙◌}
use Rattle.std.proofs.lemmas.List.{append_assoc, append-nil, take_all, replicate_more}
use Rattle.lte_events.specs.declared.events.Event.{Event}
use Rattle.lte_events.specs.declared.events.Event.TheVariants as event
use Rattle.scenario_file.specs.{Draws.arrivals, FirstSteps.Taken, FirstSteps.with_steps}

take_twice : {A : Type 0} (n : ℕ) (xs ys : List A) → take n (take n xs ++ ys) ≡ take n (xs ++ ys)
take_twice zero xs ys = refl
take_twice (suc n) [] ys = refl
take_twice (suc n) (x ∷ xs) ys = ap (λ zs. x ∷ zs) (take_twice n xs ys)

-- no step more
pub no_more : (taken : Taken) → length taken.steps ≤ taken.most → with_steps taken [] ≡ taken
unfolding with_steps
no_more taken within = ap (λ steps. record taken { steps = steps }) (ap (take taken.most) (append-nil taken.steps) ∙ take_all taken.most taken.steps within)

-- a few, and then a few more
pub joined : (taken : Taken) (xs ys : List Event) → with_steps (with_steps taken xs) ys ≡ with_steps taken (xs ++ ys)
unfolding with_steps
joined taken xs ys =
    ap (λ steps. record taken { steps = steps }) (take_twice taken.most (taken.steps ++ xs) ys ∙ ap (take taken.most) (append_assoc taken.steps xs ys))

pub then : (a b c : Taken) (xs ys : List Event) → b ≡ with_steps a xs → c ≡ with_steps b ys → c ≡ with_steps a (xs ++ ys)
then a b c xs ys first second = second ∙ ap (λ taken. with_steps taken ys) first ∙ joined a xs ys

-- one arrival more
pub one_more : (taken : Taken) (n : ℕ) → with_steps (with_steps taken (arrivals n)) (event.Deliver (negsuc 0) ∷ []) ≡ with_steps taken (arrivals (n + 1))
one_more taken n = joined taken (arrivals n) (event.Deliver (negsuc 0) ∷ []) ∙ ap (with_steps taken) (replicate_more n (event.Deliver (negsuc 0)))
