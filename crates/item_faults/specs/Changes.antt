-- A fault as a change of the order of items.
use Rattle.std.specs.Prelude.{ℕ, ◌+◌, nat_lt, Bool, true, false, not, ◌&&◌, List, [], ◌∷◌, ◌++◌, take, drop, Option, Some, None, if◌then◌else◌, position}
use Rattle.std.specs.{List.slice_range, Option.option_map, Option.option_and_then}
use Rattle.item_faults.specs.{declared.changes.Fault.Fault, declared.changes.Kind.Kind, declared.entries.Again.Again, declared.entries.Entry.Entry}
use Rattle.item_faults.specs.declared.changes.Kind.TheVariants as kind
use Rattle.item_faults.specs.declared.entries.Again.TheVariants as again
use Rattle.items.specs.declared.Deed.{Deed}
use Rattle.items.specs.declared.Deed.TheVariants as deed
use Rattle.item_faults.specs.Entries.{act_of, delivery_of, has, is_named, kept_from, movers, own}

-- a message is sent once more: the acts and deliveries by which the one comes that is delivered in its place
abbrev pub sent_by : ℕ → Entry → Again → Option (List Entry)
sent_by number e again.Never = None
sent_by number e (again.Act a) = Some (act_of (own number 1) a e.moves_with ∷ delivery_of e.name (own number 1) ∷ [])
sent_by number e (again.Answer a) =
    Some (act_of (own number 1) a e.moves_with ∷ delivery_of (own number 2) (own number 1) ∷ delivery_of e.name (own number 2) ∷ [])
sent_by number e (again.Anew a b) =
    Some (act_of (own number 1) a e.moves_with ∷ delivery_of (own number 2) (own number 1)
    ∷ act_of (own number 3) b (Some (own number 2)) ∷ delivery_of e.name (own number 3) ∷ [])
sent_by number e (again.AnewAnswer a b) =
    Some (act_of (own number 1) a e.moves_with ∷ delivery_of (own number 2) (own number 1)
    ∷ act_of (own number 3) b (Some (own number 2)) ∷ delivery_of (own number 4) (own number 3)
    ∷ delivery_of e.name (own number 4) ∷ [])

abbrev pub sent_again : ℕ → Entry → Option (List Entry)
sent_again number e = sent_by number e e.again

-- these go, and those come behind this place
abbrev pub edited : List Entry → ℕ → List Entry → List Entry → List Entry
edited gone to new entries = kept_from gone (kept_from gone [] (take (to + 1) entries) ++ new) (drop (to + 1) entries)

-- THE FOUR KINDS, each by the items from the message to the place behind which it or its copy comes
-- the message goes
abbrev pub lost : ℕ → List Entry → List Entry → Option (List Entry)
lost to entries (e ∷ []) = Some (edited (e ∷ []) to [] entries)
lost to entries other = None

-- it goes with all that it makes happen up to the place, which does not, and they come behind it
abbrev pub if_not : Bool → List Entry → Option (List Entry)
if_not true entries = None
if_not false entries = Some entries

abbrev pub late : ℕ → ℕ → List Entry → List Entry → Option (List Entry)
late after to entries span = if_not (has after (movers span)) (edited (movers span) to (movers span) entries)

-- a copy comes behind the place
abbrev pub copy_of : ℕ → Entry → Entry
copy_of number e = record e { name = own number 0 }

abbrev pub twice : ℕ → ℕ → List Entry → List Entry → Option (List Entry)
twice number to entries [] = None
twice number to entries (e ∷ es) = Some (edited [] to (copy_of number e ∷ []) entries)

-- it goes, and in its place comes what sends it once more
abbrev pub repeated : ℕ → ℕ → List Entry → List Entry → Option (List Entry)
repeated number to entries (e ∷ []) = option_map (λ new. edited (e ∷ []) to new entries) (sent_again number e)
repeated number to entries other = None

abbrev pub changed : ℕ → Kind → ℕ → ℕ → List Entry → List Entry → Option (List Entry)
changed number kind.Lost after to entries span = lost to entries span
changed number kind.Late after to entries span = late after to entries span
changed number kind.Twice after to entries span = twice number to entries span
changed number kind.Again after to entries span = repeated number to entries span

-- A FAULT: none where the list does not have its message, or its place stands before it
abbrev pub put_at : ℕ → Fault → List Entry → Option ℕ → Option ℕ → Option (List Entry)
put_at number f entries None o = None
put_at number f entries (Some at) None = None
put_at number f entries (Some at) (Some to) =
    (if nat_lt to at then None else changed number f.kind f.after to entries (slice_range entries at (to + 1)))

abbrev pub put : ℕ → Fault → List Entry → Option (List Entry)
put number f entries = put_at number f entries (position (is_named f.message) entries) (position (is_named f.after) entries)

-- FAULTS TOGETHER, one after the other: none where a list does not have the next one, or where something is delivered before it is sent
unfoldable pub put_all : ℕ → List Fault → List Entry → Option (List Entry)
put_all number [] entries = Some entries
put_all number (f ∷ fs) entries = option_and_then (put_all (number + 1) fs) (put number f entries)

abbrev pub is_of_one : Deed → List Entry → Bool
is_of_one (deed.Act place) entries = false
is_of_one (deed.Delivery of) entries = has of entries

unfoldable pub in_order : List Entry → Bool
in_order [] = true
in_order (e ∷ es) = not (is_of_one e.deed (e ∷ es)) && in_order es

abbrev pub ordered : List Entry → Option (List Entry)
ordered entries = if_not (not (in_order entries)) entries

abbrev pub variant : List Fault → List Entry → Option (List Entry)
variant faults entries = option_and_then ordered (put_all 0 faults entries)
