-- Each choice stands there once, where each fault does.
use Rattle.std.proofs.Common.{refl, sym, subst, ap, ℕ, ◌⊎◌, inl, inr, List, [], ◌∷◌, ◌++◌, map, drop}
use Rattle.std.specs.Prelude.{zero, suc}
use Rattle.item_faults.specs.declared.changes.Fault.{Fault}
use Rattle.item_faults.specs.Once.{Among, Once}
use Rattle.item_faults.proofs.EachOnce.{either}
use Rattle.fault_sets.specs.{Laws.IsChoice, Laws.IsPart, Sets.sets_of}
use Rattle.fault_sets.proofs.Sound.{Each, each}

Once-append : {A : Type 0} (xs ys : List A) → Once xs → Once ys → ((x : A) → Among x xs → Among x ys → ⊥) → Once (xs ++ ys)
Once-append [] ys h g apart = g
Once-append (x ∷ xs) ys h g apart = (λ a. no (either x xs ys a), Once-append xs ys h.1 g (λ y a b. apart y (inr a) b)) where
  no : Among x xs ⊎ Among x ys → ⊥
  no (inl a) = h.0 a
  no (inr b) = apart x (inl refl) b

rest_in : (f : Fault) (s : List Fault) (ss : List (List Fault)) → Among (f ∷ s) (map (λ s. f ∷ s) ss) → Among s ss
rest_in f s [] h = absurd h
rest_in f s (t ∷ ss) (inl is) = inl (ap (drop 1) is)
rest_in f s (t ∷ ss) (inr h) = inr (rest_in f s ss h)

Once-first : (f : Fault) (ss : List (List Fault)) → Once ss → Once (map (λ s. f ∷ s) ss)
Once-first f [] h = tt
Once-first f (s ∷ ss) h = (λ a. h.0 (rest_in f s ss a), Once-first f ss h.1)

first_in : (f : Fault) (s fs : List Fault) → IsPart (f ∷ s) fs → Among f fs
first_in f s [] h = absurd h
first_in f s (g ∷ fs) (inl h) = inl h.0
first_in f s (g ∷ fs) (inr h) = inr (first_in f s fs h)

begins : (f : Fault) (s fs : List Fault) (ss : List (List Fault)) → Among s (map (λ s. f ∷ s) ss) → IsPart s fs → Among f fs
begins f s fs [] h part = absurd h
begins f s fs (t ∷ ss) (inl is) part = first_in f t fs (subst (λ s. IsPart s fs) is part)
begins f s fs (t ∷ ss) (inr h) part = begins f s fs ss h part

of_each : (P : List Fault → Type 0) (s : List Fault) (ss : List (List Fault)) → Each P ss → Among s ss → P s
of_each P s [] h a = absurd a
of_each P s (t ∷ ss) h (inl is) = subst P (sym is) h.0
of_each P s (t ∷ ss) h (inr a) = of_each P s ss h.1 a

pub once : (k : ℕ) (fs : List Fault) → Once fs → Once (sets_of k fs)
unfolding sets_of
once zero fs h = (λ a. a, tt)
once (suc k) [] h = tt
once (suc k) (f ∷ fs) h =
    Once-append (map (λ s. f ∷ s) (sets_of k fs)) (sets_of (suc k) fs) (Once-first f (sets_of k fs) (once k fs h.1)) (once (suc k) fs h.1)
    (λ s a b. let is = of_each (IsChoice (suc k) fs) s (sets_of (suc k) fs) (each (suc k) fs) b in h.0 (begins f s fs (sets_of k fs) a is.1))
