-- Whether two nets are one, in octets.
use Rattle.std.specs.Prelude.{ℕ, Bool, true, false, ◌&&◌, nat_eq, Option, None, Some, List}
use Rattle.std.specs.Str.{bytes_eq}
use Rattle.annex_a_keys.specs.Cell.{Place}
use Rattle.key_model.specs.HandoverTable.{NumberedKey}
use Rattle.nh_chain.specs.{Chain.ChainState, Station.StationKey}
use Rattle.trace_keys.specs.Net.{Target, Offer, Serving, Net}

abbrev pub same_cell : Place → Place → Bool
same_cell a b = nat_eq a.pci b.pci && nat_eq a.earfcn b.earfcn

abbrev pub same_numbered : NumberedKey (List ℕ) ℕ → NumberedKey (List ℕ) ℕ → Bool
same_numbered a b = nat_eq a.number b.number && bytes_eq a.key b.key

abbrev pub same_chain : ChainState (List ℕ) ℕ → ChainState (List ℕ) ℕ → Bool
same_chain a b = nat_eq a.number b.number && bytes_eq a.sync b.sync && bytes_eq a.root b.root

abbrev pub same_pair : Option (NumberedKey (List ℕ) ℕ) → Option (NumberedKey (List ℕ) ℕ) → Bool
same_pair None None = true
same_pair (Some a) (Some b) = same_numbered a b
same_pair a b = false

abbrev pub same_held : StationKey (List ℕ) ℕ → StationKey (List ℕ) ℕ → Bool
same_held a b = nat_eq a.number b.number && bytes_eq a.kenb b.kenb && same_pair a.pair b.pair

abbrev pub same_target : Option (Target (List ℕ) ℕ) → Option (Target (List ℕ) ℕ) → Bool
same_target None None = true
same_target (Some a) (Some b) =
    nat_eq a.station b.station && same_cell a.cell b.cell && same_numbered a.star b.star && same_pair a.spent b.spent
same_target a b = false

abbrev pub same_offer : Option (Offer (List ℕ) ℕ) → Option (Offer (List ℕ) ℕ) → Bool
same_offer None None = true
same_offer (Some a) (Some b) =
    nat_eq a.count b.count && nat_eq a.kasme b.kasme && bytes_eq a.kenb b.kenb && same_chain a.core b.core
same_offer a b = false

abbrev pub same_serving : Option (Serving (List ℕ) ℕ) → Option (Serving (List ℕ) ℕ) → Bool
same_serving None None = true
same_serving (Some a) (Some b) =
    nat_eq a.station b.station && same_cell a.cell b.cell && same_target a.target b.target && same_held a.key b.key
    && same_offer a.offer b.offer && same_chain a.core b.core
same_serving a b = false

abbrev pub same_net : Net (List ℕ) ℕ → Net (List ℕ) ℕ → Bool
same_net a b = nat_eq a.count b.count && nat_eq a.kasme b.kasme && same_serving a.serving b.serving
