-- Each part of a list is among the choices of so many.
use Rattle.std.proofs.Common.{◌≡◌, refl, inl, inr, List, [], ◌∷◌, ◌++◌, map, length}
use Rattle.std.specs.Prelude.{suc}
use Rattle.item_faults.specs.declared.changes.Fault.{Fault}
use Rattle.item_faults.specs.Once.{Among}
use Rattle.fault_sets.specs.{Laws.IsPart, Sets.sets_of}

left_of : {A : Type 0} (x : A) (xs ys : List A) → Among x xs → Among x (xs ++ ys)
left_of x [] ys h = absurd h
left_of x (y ∷ xs) ys (inl is) = inl is
left_of x (y ∷ xs) ys (inr h) = inr (left_of x xs ys h)

right_of : {A : Type 0} (x : A) (xs ys : List A) → Among x ys → Among x (xs ++ ys)
right_of x [] ys h = h
right_of x (y ∷ xs) ys h = inr (right_of x xs ys h)

with_first : (f g : Fault) (s : List Fault) (sets : List (List Fault)) → f ≡ g → Among s sets → Among (f ∷ s) (map (λ s. g ∷ s) sets)
with_first f g s [] same h = absurd h
with_first f g s (t ∷ sets) same (inl is) = inl (λ j. same j ∷ is j)
with_first f g s (t ∷ sets) same (inr h) = inr (with_first f g s sets same h)

pub complete : (s fs : List Fault) → IsPart s fs → Among s (sets_of (length s) fs)
unfolding sets_of
complete [] fs h = inl refl
complete (f ∷ s) [] h = absurd h
complete (f ∷ s) (g ∷ fs) (inl h) =
    left_of (f ∷ s) (map (λ s. g ∷ s) (sets_of (length s) fs)) (sets_of (suc (length s)) fs)
    (with_first f g s (sets_of (length s) fs) h.0 (complete s fs h.1))
complete (f ∷ s) (g ∷ fs) (inr h) =
    right_of (f ∷ s) (map (λ s. g ∷ s) (sets_of (length s) fs)) (sets_of (suc (length s)) fs) (complete (f ∷ s) fs h)
