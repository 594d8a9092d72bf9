-- One step more, and one element more of what a list begins with.
use Rattle.std.proofs.Common.{◌≡◌, sym, ap, ◌∙◌, ℕ, ◌+◌, List, [], ◌∷◌, ◌++◌, take, drop, slice_get, Some}
use Rattle.std.proofs.lemmas.List.{drop_more, take_more}
use Rattle.std.proofs.lemmas.Option.{get_or_from_slice_get, slice_get_within}
use Rattle.lte_events.specs.declared.events.Event.{Event}
use Rattle.item_faults.specs.declared.steps.Step.{Step}
use Rattle.item_lines.specs.declared.lines.Told.{Told}
use Rattle.item_steps.specs.Steps.{next_step, steps_from}

left : {A : Type 0} (xs : List A) (n : ℕ) (x : A) → slice_get xs n ≡ Some x → drop n xs ≡ x ∷ drop (n + 1) xs
left xs n x at =
    drop_more xs n x (slice_get_within xs n x at) ∙ ap (λ y. y ∷ drop (n + 1) xs) (get_or_from_slice_get xs n x x at)

pub taken : {A : Type 0} (xs : List A) (n : ℕ) (x : A) → slice_get xs n ≡ Some x → take n xs ++ x ∷ [] ≡ take (n + 1) xs
taken xs n x at =
    sym (take_more xs n x (slice_get_within xs n x at) ∙ ap (λ y. take n xs ++ y ∷ []) (get_or_from_slice_get xs n x x at))

pub steps_more : (steps next : List Step) (events : List Event) (told : List Told) (n : ℕ) (e : Event) (t : Told)
    → slice_get events n ≡ Some e
    → slice_get told n ≡ Some t
    → next ≡ steps ++ next_step steps (take n told) e t ∷ []
    → steps_from steps (take n told) (drop n events) (drop n told)
    ≡ steps_from next (take (n + 1) told) (drop (n + 1) events) (drop (n + 1) told)
unfolding steps_from
steps_more steps next events told n e t at line more =
    (λ j. steps_from steps (take n told) (left events n e at j) (left told n t line j))
    ∙ (λ j. steps_from (sym more j) (taken told n t line j) (drop (n + 1) events) (drop (n + 1) told))
