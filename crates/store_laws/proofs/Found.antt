-- The records in the bag, and those that the network keeps.
use Rattle.std.proofs.Common.{◌≡◌, ◌∙◌, ℕ, List, map}
use Rattle.std.specs.{Prelude.slice_get, Prelude.option_map, List.position_from}
use Rattle.std.proofs.{lemmas.Iterator.Adapters.position_from-zero, lemmas.Option.slice_get-map}
use Rattle.lte_events.specs.declared.classes.Class.{Class}
use Rattle.net_bag.specs.Bag as bag
use Rattle.net_bag.specs.Bag.{first_sent}
use Rattle.key_terms.proofs.Places.{position_map}
use Rattle.lte_machine.specs.{Ciphers.Ciphers, Machines.Kept, Machines.machine_in_octets, World.is_sent}
use Rattle.store_laws.specs.Records.{view_of}

pub first_is : (c : Ciphers (List ℕ)) (sent : List Kept) (class : Class) (octets : List ℕ) →
    first_sent (map view_of sent) class octets ≡ position_from (is_sent (machine_in_octets c) class octets) 0 sent
first_is c sent class octets =
    position_map view_of (bag.is_sent class octets) sent ∙ position_from-zero (is_sent (machine_in_octets c) class octets) sent

pub chosen_is : (sent : List Kept) (i : ℕ) → slice_get (map view_of sent) i ≡ option_map view_of (slice_get sent i)
chosen_is sent i = slice_get-map view_of sent i
