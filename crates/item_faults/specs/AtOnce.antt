-- What the run of a list delivers at once.
use Rattle.std.specs.Prelude.{ℕ, ◌==◌, ◌||◌, Bool, false, List, map, if◌then◌else◌}
use Rattle.std.specs.List.{list_any}
use Rattle.item_faults.specs.declared.entries.Entry.{Entry}
use Rattle.items.specs.{declared.Deed.Deed, declared.Item.Item, Items.most_at_once}
use Rattle.items.specs.declared.Deed.TheVariants as deed

abbrev pub is_of : ℕ → Deed → Bool
is_of name (deed.Act place) = false
is_of name (deed.Delivery of) = of == name

-- whether one of these delivers what the item of this name sends
abbrev pub is_delivered : ℕ → List Entry → Bool
is_delivered name entries = list_any (λ e. is_of name e.deed) entries

-- whether the item of this name sends in the scenario
abbrev pub is_sender : ℕ → List ℕ → Bool
is_sender name senders = list_any (λ sender. sender == name) senders

-- at once is delivered what an item sends that sends nothing in the scenario and of which the list has no delivery
abbrev pub at_once : List ℕ → List Entry → ℕ → ℕ
at_once senders entries name = (if is_sender name senders || is_delivered name entries then 0 else most_at_once)

abbrev pub item_of : List ℕ → List Entry → Entry → Item
item_of senders entries e = record { name = e.name; deed = e.deed; at_once = at_once senders entries e.name }

abbrev pub items_of : List ℕ → List Entry → List Item
items_of senders entries = map (item_of senders entries) entries
