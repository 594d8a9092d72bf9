-- The kinds of faults that happen: those that are named, and all where none is.
use Rattle.std.specs.Prelude.{◌||◌, not, Bool, true, false, List}
use Rattle.std.specs.List.{filter}
use Rattle.item_faults.specs.{declared.changes.Fault.Fault, declared.changes.Kind.Kind}
use Rattle.item_faults.specs.declared.changes.Kind.TheVariants as kind
use Rattle.lte_variants.specs.declared.kinds.Kinds.{Kinds}

abbrev pub no_kinds : Kinds
no_kinds = record { lost = false; late = false; twice = false; again = false }

-- with one kind more
abbrev pub with_kind : Kind → Kinds → Kinds
with_kind kind.Lost k = record k { lost = true }
with_kind kind.Late k = record k { late = true }
with_kind kind.Twice k = record k { twice = true }
with_kind kind.Again k = record k { again = true }

-- whether a kind is named, and whether none is
abbrev pub is_named : Kinds → Kind → Bool
is_named k kind.Lost = k.lost
is_named k kind.Late = k.late
is_named k kind.Twice = k.twice
is_named k kind.Again = k.again

abbrev pub names_none : Kinds → Bool
names_none k = not (k.lost || (k.late || (k.twice || k.again)))

abbrev pub happens : Kinds → Fault → Bool
happens k f = names_none k || is_named k f.kind

-- those of these faults that happen
abbrev pub happening : Kinds → List Fault → List Fault
happening k faults = filter (happens k) faults
