-- A few octets of a net, which are compared first.
use Rattle.std.specs.Prelude.{ℕ, Bool, ◌&&◌, nat_eq, Option, None, Some, List, get_or}
use Rattle.key_model.specs.HandoverTable.{NumberedKey}
use Rattle.trace_keys.specs.Net.{Target, Offer, Serving, Net}
use Rattle.trace_keys.specs.declared.marks.Mark.{Mark}

abbrev pub first_octet : List ℕ → ℕ
first_octet key = get_or key 0 0

abbrev pub octet_of_pair : Option (NumberedKey (List ℕ) ℕ) → ℕ
octet_of_pair None = 0
octet_of_pair (Some pair) = first_octet pair.key

abbrev pub octet_of_target : Option (Target (List ℕ) ℕ) → ℕ
octet_of_target None = 0
octet_of_target (Some target) = first_octet target.star.key

abbrev pub octet_of_offer : Option (Offer (List ℕ) ℕ) → ℕ
octet_of_offer None = 0
octet_of_offer (Some offer) = first_octet offer.kenb

abbrev pub mark_in : ℕ → Option (Serving (List ℕ) ℕ) → Mark
mark_in count None = record { count = count; core = 0; key = 0; pair = 0; target = 0; offer = 0 }
mark_in count (Some s) = record {
  count = count;
  core = first_octet s.core.sync;
  key = first_octet s.key.kenb;
  pair = octet_of_pair s.key.pair;
  target = octet_of_target s.target;
  offer = octet_of_offer s.offer;
}

abbrev pub mark_of : Net (List ℕ) ℕ → Mark
mark_of net = mark_in net.count net.serving

abbrev pub same_mark : Mark → Mark → Bool
same_mark a b =
    nat_eq a.target b.target && nat_eq a.key b.key && nat_eq a.pair b.pair && nat_eq a.offer b.offer && nat_eq a.core b.core
    && nat_eq a.count b.count
