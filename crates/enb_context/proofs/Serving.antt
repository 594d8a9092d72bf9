-- A step of a station whose context alone is looked at.
use Rattle.std.proofs.Common.{◌≡◌, ℕ, List, Some, ◌∙◌, ap, sym}
use Rattle.lte_events.specs.declared.replies.ActorOut.{ActorOut}
use Rattle.lte_machine.specs.StationState.{Station, Context, StationInput}
use Rattle.enb_context.specs.Step.{answered, serving, serving_at}

-- what is so of every station with this context is so of this one
pub serves : (s t : Station (List ℕ) ℕ) (c d : Context (List ℕ) ℕ) (out : ActorOut) (i : StationInput (List ℕ) ℕ) → s ≡ t → s.context ≡ Some c
    → ((x : Station (List ℕ) ℕ) → (serving x d, out) ≡ answered (serving x c) i) → (serving s d, out) ≡ answered t i
serves s t c d out i view e h =
    let same : serving s c ≡ s = λ j. record s { context = sym e j } in
    h s ∙ ap (λ x. answered x i) (same ∙ view)

-- the same with the station's number
pub serves_at : (s t : Station (List ℕ) ℕ) (c d : Context (List ℕ) ℕ) (out : ActorOut) (i : StationInput (List ℕ) ℕ) → s ≡ t → s.context ≡ Some c
    → ((x : Station (List ℕ) ℕ) → (serving_at x s.id d, out) ≡ answered (serving_at x s.id c) i) → (serving s d, out) ≡ answered t i
serves_at s t c d out i view e h =
    let same : serving s c ≡ s = λ j. record s { context = sym e j } in
    h s ∙ ap (λ x. answered x i) (same ∙ view)
