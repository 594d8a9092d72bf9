-- The choices are all that there are.
use Rattle.std.proofs.Common.{◌≡◌, sym, subst, ℕ, ◌⊎◌, inl, inr, List, [], ◌∷◌}
use Rattle.item_faults.specs.{declared.changes.Fault.Fault, Faults.faults_of, Once.Among, Once.Once}
use Rattle.item_faults.proofs.EachOnce.{faults_once}
use Rattle.fault_sets.specs.{Laws.AreAll, Laws.IsPart, Sets.sets_of}
use Rattle.fault_sets.proofs.{Complete.complete, Once.once, Sound.sound}

-- some of a list in which each stands once
part_in : (f : Fault) (ss fs : List Fault) → Among f ss → IsPart ss fs → Among f fs
part_in f [] fs a part = absurd a
part_in f (s ∷ ss) [] a part = absurd part
part_in f (s ∷ ss) (g ∷ fs) (inl is) (inl h) = inl (subst (λ x. f ≡ x) h.0 is)
part_in f (s ∷ ss) (g ∷ fs) (inr a) (inl h) = inr (part_in f ss fs a h.1)
part_in f (s ∷ ss) (g ∷ fs) a (inr h) = inr (part_in f (s ∷ ss) fs a h)

part_once : (ss fs : List Fault) → IsPart ss fs → Once fs → Once ss
part_once [] fs part h = tt
part_once (s ∷ ss) [] part h = absurd part
part_once (s ∷ ss) (f ∷ fs) (inl p) h =
    (λ a. h.0 (subst (λ x. Among x fs) p.0 (part_in s ss fs a p.1)), part_once ss fs p.1 h.1)
part_once (s ∷ ss) (f ∷ fs) (inr p) h = part_once (s ∷ ss) fs p h.1

pub are_all : (count : ℕ) (faults : List Fault) → AreAll count faults (sets_of count faults)
are_all count faults = record {
  complete = λ s is. subst (λ k. Among s (sets_of k faults)) is.0 (complete s faults is.1);
  sound = sound count faults;
  once = once count faults;
  of_scenario =
      λ entries messages named asked part.
      once count faults (part_once faults (faults_of entries messages) part (faults_once entries messages named asked));
}
