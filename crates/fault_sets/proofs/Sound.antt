-- Each choice is of so many faults, and a part of the list.
use Rattle.std.proofs.Common.{refl, ap, ℕ, inl, inr, List, [], ◌∷◌, ◌++◌, map, All}
use Rattle.std.specs.Prelude.{zero, suc}
use Rattle.std.proofs.lemmas.List.Elements.{All-from_recursion}
use Rattle.item_faults.specs.declared.changes.Fault.{Fault}
use Rattle.fault_sets.specs.{Laws.IsChoice, Sets.sets_of}

-- what holds of all of these, one after the other
abbrev pub Each : (List Fault → Type 0) → List (List Fault) → Type 0
Each P [] = Unit {0}
Each P (s ∷ ss) = P s × Each P ss

Each-append : (P : List Fault → Type 0) (xs ys : List (List Fault)) → Each P xs → Each P ys → Each P (xs ++ ys)
Each-append P [] ys h g = g
Each-append P (x ∷ xs) ys h g = (h.0, Each-append P xs ys h.1 g)

-- without the first fault
behind : (k : ℕ) (f : Fault) (fs : List Fault) (s : List Fault) → IsChoice (suc k) fs s → IsChoice (suc k) (f ∷ fs) s
behind k f fs [] h = (h.0, tt)
behind k f fs (x ∷ s) h = (h.0, inr h.1)

Each-behind : (k : ℕ) (f : Fault) (fs : List Fault) (ss : List (List Fault)) → Each (IsChoice (suc k) fs) ss
    → Each (IsChoice (suc k) (f ∷ fs)) ss
Each-behind k f fs [] h = tt
Each-behind k f fs (s ∷ ss) h = (behind k f fs s h.0, Each-behind k f fs ss h.1)

-- with it
Each-first : (k : ℕ) (f : Fault) (fs : List Fault) (ss : List (List Fault)) → Each (IsChoice k fs) ss
    → Each (IsChoice (suc k) (f ∷ fs)) (map (λ s. f ∷ s) ss)
Each-first k f fs [] h = tt
Each-first k f fs (s ∷ ss) h = ((ap suc h.0.0, inl (refl, h.0.1)), Each-first k f fs ss h.1)

pub each : (k : ℕ) (fs : List Fault) → Each (IsChoice k fs) (sets_of k fs)
unfolding sets_of
each zero fs = ((refl, tt), tt)
each (suc k) [] = tt
each (suc k) (f ∷ fs) =
    Each-append (IsChoice (suc k) (f ∷ fs)) (map (λ s. f ∷ s) (sets_of k fs)) (sets_of (suc k) fs)
    (Each-first k f fs (sets_of k fs) (each k fs)) (Each-behind k f fs (sets_of (suc k) fs) (each (suc k) fs))

pub sound : (k : ℕ) (fs : List Fault) → All (IsChoice k fs) (sets_of k fs)
sound k fs = All-from_recursion (IsChoice k fs) (sets_of k fs) (each k fs)
