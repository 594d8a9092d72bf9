-- Items: acts by their places in a list of acts, and deliveries by the name of the item that sent what is delivered. So no number
-- of a record stands in an item.
use Rattle.std.specs.Prelude.{ℕ, ◌<◌, ◌≤◌}
use Rattle.items.specs.{declared.Deed.Deed, declared.Item.Item}
use Rattle.items.specs.declared.Deed.TheVariants as deed

-- so many records at most that come of an item, each of the one before, are delivered at once
abbrev pub most_at_once : ℕ
most_at_once = 8

-- an act is one of so many
abbrev pub IsDeedOf : ℕ → Deed → Type 0
IsDeedOf acts (deed.Act place) = place < acts
IsDeedOf acts (deed.Delivery of) = Unit {0}

-- an item of so many acts
abbrev pub IsItemOf : ℕ → Item → Type 0
IsItemOf acts i = IsDeedOf acts i.deed × (i.at_once ≤ most_at_once)
