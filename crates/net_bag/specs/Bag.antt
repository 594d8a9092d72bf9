-- The bag of everything ever sent: the records, in the order in which they were sent.
use Rattle.std.specs.Prelude.{◌≡◌, ℕ, ◌<◌, Bool, false, ◌&&◌, List, Option, Some, None, length, map, take, slice_get, position}
use Rattle.std.specs.Str.{bytes_eq}
use Rattle.lte_events.specs.{declared.classes.Class.Class, Texts.Item}
use Rattle.net_bag.specs.{declared.view.BagView.BagView, declared.records.Entry.Entry, Class.digest}
use Rattle.lte_events.specs.Class.{class_of, same_class, told_in}

-- the records, and for how many more there is room
pub record Records : Type 0 where
  pub records : List BagView
  pub spare : ℕ

-- whether a record of this interface has these octets, on NAS from the second on
abbrev pub is_sent : Class → List ℕ → BagView → Bool
is_sent class octets sent = same_class class (class_of sent.to) && bytes_eq (told_in class octets) (told_in class sent.octets)

-- the number of the first such record
abbrev pub first_sent : List BagView → Class → List ℕ → Option ℕ
first_sent records class octets = position (is_sent class octets) records

-- the value by which a record is looked up
abbrev pub digest_of : BagView → List ℕ
digest_of sent = digest (class_of sent.to) sent.octets

-- the index has exactly the records up to its mark, in their order: the mark is its length
abbrev pub IsIndexOf : List (List ℕ) → List BagView → Type 0
IsIndexOf digests records = digests ≡ map digest_of (take (length digests) records)

-- a record whose octets stand apart from what it is besides
abbrev pub view_of : Item Entry → BagView
view_of i = record { to = i.tag.to; octets = i.octets; tuple = i.tag.tuple }

-- the first record with these octets among those before a mark
abbrev pub IsFirstBefore : List BagView → Class → List ℕ → ℕ → Option ℕ → Type 0
IsFirstBefore records class octets mark None =
    (j : ℕ) (r : BagView) → j < mark → slice_get records j ≡ Some r → is_sent class octets r ≡ false
IsFirstBefore records class octets mark (Some k) = first_sent records class octets ≡ Some k
