-- The faults of a message whose item is the first of a list, where the names of all items rise: by one walk over what comes from it on.
use Rattle.std.specs.Prelude.{ℕ, ◌+◌, nat_lt, ◌&&◌, Bool, true, not, List, [], ◌∷◌, ◌++◌}
use Rattle.item_faults.specs.{declared.changes.Fault.Fault, declared.entries.Entry.Entry, Entries.moves, Entries.with_if}
use Rattle.item_faults.specs.Faults.{fault_at, is_sent, with_fault}
use Rattle.item_faults.specs.declared.changes.Kind.TheVariants as kind

-- whether names rise, from this one on
unfoldable pub rise_from : ℕ → List Entry → Bool
rise_from least [] = true
rise_from least (e ∷ es) = not (nat_lt e.name least) && rise_from (e.name + 1) es

abbrev pub rise : List Entry → Bool
rise entries = rise_from 0 entries

-- lost, and sent again: in its place alone
abbrev pub lost_here : ℕ → List Fault → List Entry → List Fault
lost_here message faults [] = faults
lost_here message faults (e ∷ es) = faults ++ fault_at kind.Lost message e.name ∷ []

abbrev pub again_here : ℕ → List Fault → List Entry → List Fault
again_here message faults [] = faults
again_here message faults (e ∷ es) = with_fault (is_sent e.again) (fault_at kind.Again message e.name) faults

-- late: behind each item that does not move with it
unfoldable pub late_from : ℕ → List Entry → List Fault → List Entry → List Fault
late_from message moved faults [] = faults
late_from message moved faults (e ∷ es) =
    late_from message (with_if (moves moved e) e moved) (with_fault (not (moves moved e)) (fault_at kind.Late message e.name) faults) es

-- twice: behind each
unfoldable pub twice_from : ℕ → List Fault → List Entry → List Fault
twice_from message faults [] = faults
twice_from message faults (e ∷ es) = twice_from message (faults ++ fault_at kind.Twice message e.name ∷ []) es

abbrev pub of_here : ℕ → List Entry → List Fault → List Fault
of_here message here faults =
    again_here message (twice_from message (late_from message [] (lost_here message faults here) here) here) here
