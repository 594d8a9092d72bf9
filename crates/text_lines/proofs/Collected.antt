-- The list that is collected of an iterator.
use Rattle.std.proofs.Common.{◌≡◌, Option, List, map, Result, Ok, Err, IfOk}
use Rattle.std.specs.{Prelude.Vec, Prelude.vec_items, Iterator.Drains}
use Rattle.std.proofs.lemmas.Iterator.{YieldsList, items_from_drains}

-- what it holds, where each item is read by `v`
pub collected : {S A B Z E : Type 0} {steps : S → Option A → S → Type 0} {v : A → B} {s : S} {all : List B} (r : Result (Vec A Z) E)
    → IfOk r (λ list. Drains steps s (vec_items list)) → YieldsList steps v s all → IfOk r (λ list. map v (vec_items list) ≡ all)
collected (Ok list) drains yields = items_from_drains (vec_items list) (drains.1.0, drains.1.1, λ _. (drains.0, drains.1.2)) yields
collected (Err e) drains yields = tt
