-- The items of a scenario or of a variant in their order.
use Rattle.std.specs.Prelude.{ℕ, ◌+◌, ◌*◌, ◌==◌, Bool, true, false, not, List, [], ◌∷◌, ◌++◌, Option, Some, None}
use Rattle.std.specs.List.{list_any}
use Rattle.item_faults.specs.declared.entries.Again.TheVariants as again
use Rattle.item_faults.specs.declared.entries.Entry.{Entry}
use Rattle.items.specs.declared.Deed.TheVariants as deed

-- so many steps a scenario has at most: they name its items
abbrev pub most_steps : ℕ
most_steps = 2000

-- the name of an item that the fault of this number puts in: 0 is a copy, 1 to 4 send a message again
abbrev pub own : ℕ → ℕ → ℕ
own number letter = most_steps + 5 * number + letter

abbrev pub act_of : ℕ → ℕ → Option ℕ → Entry
act_of name act moves_with = record { name = name; deed = deed.Act act; moves_with = moves_with; again = again.Never }

abbrev pub delivery_of : ℕ → ℕ → Entry
delivery_of name of = record { name = name; deed = deed.Delivery of; moves_with = Some of; again = again.Never }

abbrev pub is_named : ℕ → Entry → Bool
is_named name e = e.name == name

abbrev pub has : ℕ → List Entry → Bool
has name entries = list_any (is_named name) entries

-- WHAT MOVES WITH WHAT: the first of a list, what it makes happen, and so on
abbrev pub is_one_of : List Entry → Option ℕ → Bool
is_one_of moved None = false
is_one_of moved (Some name) = has name moved

abbrev pub follows : List Entry → Entry → Bool
follows moved e = is_one_of moved e.moves_with

abbrev pub moves : List Entry → Entry → Bool
moves [] e = true
moves (m ∷ ms) e = follows (m ∷ ms) e

abbrev pub with_if : Bool → Entry → List Entry → List Entry
with_if true e entries = entries ++ e ∷ []
with_if false e entries = entries

unfoldable pub movers_from : List Entry → List Entry → List Entry
movers_from moved [] = moved
movers_from moved (e ∷ es) = movers_from (with_if (moves moved e) e moved) es

abbrev pub movers : List Entry → List Entry
movers span = movers_from [] span

-- WHAT STAYS: these entries without those that go, behind others
unfoldable pub kept_from : List Entry → List Entry → List Entry → List Entry
kept_from gone kept [] = kept
kept_from gone kept (e ∷ es) = kept_from gone (with_if (not (has e.name gone)) e kept) es
