-- All choices of so many faults of a list.
use Rattle.std.specs.Prelude.{ℕ, zero, suc, Bool, true, false, List, [], ◌∷◌, ◌++◌, map, length}
use Rattle.item_faults.specs.declared.changes.Fault.{Fault}
use Rattle.fault_sets.specs.declared.sets.Place.{Place}

-- so many of these faults, each choice once, in their order: first those with the first fault, then those without it
unfoldable pub sets_of : ℕ → List Fault → List (List Fault)
sets_of zero fs = [] ∷ []
sets_of (suc k) [] = []
sets_of (suc k) (f ∷ fs) = map (λ s. f ∷ s) (sets_of k fs) ++ sets_of (suc k) fs

-- WHAT IS LEFT, where a choice stands in these places: it, and those behind it
abbrev pub chosen : Place → Fault
chosen p = p.fault

unfoldable pub later : List Place → List (List Fault)
later [] = []
later (p ∷ ps) = map (λ s. p.fault ∷ s) (later ps) ++ sets_of (suc (length ps)) p.rest.now

abbrev pub left : List Place → List (List Fault)
left ps = map chosen ps ∷ later ps

abbrev pub left_unless : Bool → List Place → List (List Fault)
left_unless true ps = []
left_unless false ps = left ps
