-- Items, each of which has octets, and all octets in one flat list.
use Rattle.std.specs.Prelude.{◌≡◌, ℕ, ◌+◌, ◌≤◌, List, Some, length, take, drop, slice_get}
use Rattle.rec_base.specs.Lengths.{longest_record}
use Rattle.lte_events.specs.declared.texts.Piece.{Piece}

-- what an item is, and its octets
pub record Item (T : Type 0) : Type 0 where
  pub tag : T
  pub octets : List ℕ

-- the items, and for how many more there is room
pub record Texts (T : Type 0) : Type 0 where
  pub items : List (Item T)
  pub spare : ℕ

-- an item whose octets stand in the flat list
abbrev pub item_of : {T : Type 0} → List ℕ → Piece T → Item T
item_of flat p = record { tag = p.tag; octets = take p.len (drop p.start flat) }

-- each item lies within the flat list, and is no longer than it can be
abbrev pub AreWithin : {T : Type 0} → List (Piece T) → List ℕ → Type 0
AreWithin pieces flat = (k : ℕ) (p : Piece _) → slice_get pieces k ≡ Some p → (p.start + p.len ≤ length flat) × (p.len ≤ longest_record)
