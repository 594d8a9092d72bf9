-- All faults of a scenario.
use Rattle.std.specs.Prelude.{ℕ, Bool, true, false, not, List, [], ◌∷◌, ◌++◌}
use Rattle.std.specs.Option.{is_some}
use Rattle.item_faults.specs.{declared.changes.Fault.Fault, declared.changes.Kind.Kind, declared.entries.Again.Again, declared.entries.Entry.Entry, Changes.put, Entries.has, Entries.movers}
use Rattle.item_faults.specs.declared.changes.Kind.TheVariants as kind
use Rattle.item_faults.specs.declared.entries.Again.TheVariants as again

-- WHETHER A FAULT CAN BE, by the items from its message to its place
abbrev pub is_one : List Entry → Bool
is_one (e ∷ []) = true
is_one other = false

abbrev pub is_there : List Entry → Bool
is_there [] = false
is_there (e ∷ es) = true

abbrev pub is_sent : Again → Bool
is_sent again.Never = false
is_sent other = true

abbrev pub repeats : List Entry → Bool
repeats (e ∷ []) = is_sent e.again
repeats other = false

abbrev pub can_be : Kind → ℕ → List Entry → Bool
can_be kind.Lost after span = is_one span
can_be kind.Late after span = not (has after (movers span))
can_be kind.Twice after span = is_there span
can_be kind.Again after span = repeats span

-- a fault that the scenario can have
abbrev pub is_fault : List Entry → Fault → Bool
is_fault entries f = is_some (put 0 f entries)

abbrev pub with_fault : Bool → Fault → List Fault → List Fault
with_fault true f faults = faults ++ f ∷ []
with_fault false f faults = faults

abbrev pub fault_at : Kind → ℕ → ℕ → Fault
fault_at kind message after = record { kind = kind; message = message; after = after }

-- a fault of this kind of a message at every place where there is one, behind others
unfoldable pub at_places : List Entry → Kind → ℕ → List Fault → List Entry → List Fault
at_places all kind message faults [] = faults
at_places all kind message faults (e ∷ es) =
    at_places all kind message (with_fault (is_fault all (fault_at kind message e.name)) (fault_at kind message e.name) faults) es

abbrev pub of_kind : List Entry → Kind → ℕ → List Fault → List Fault
of_kind all kind message faults = at_places all kind message faults all

-- all faults of a message
abbrev pub of_message : List Entry → ℕ → List Fault → List Fault
of_message all message faults =
    of_kind all kind.Again message (of_kind all kind.Twice message (of_kind all kind.Late message (of_kind all kind.Lost message faults)))

-- all faults of these messages
unfoldable pub of_messages : List Entry → List Fault → List ℕ → List Fault
of_messages all faults [] = faults
of_messages all faults (m ∷ ms) = of_messages all (of_message all m faults) ms

abbrev pub faults_of : List Entry → List ℕ → List Fault
faults_of entries messages = of_messages entries [] messages
