-- The records that were sent and the uses of keys, as the program keeps them.
use Rattle.std.specs.Prelude.{ℕ, List, map, option_map}
use Rattle.rec_base.specs.declared.uses.Use.{Use}
use Rattle.net_bag.specs.declared.view.BagView.{BagView}
use Rattle.lte_machine.specs.{Calls.use_out, Machines.Kept, World.World}

abbrev pub view_of : Kept → BagView
view_of x = record { to = x.to; octets = x.octets; tuple = option_map use_out x.tuple }

-- the records of a world
abbrev pub world_records : World (List ℕ) ℕ Kept → List BagView
world_records w = map view_of w.sent

-- and its uses
abbrev pub world_uses : {S : Type 0} → World (List ℕ) ℕ S → List Use
world_uses w = map use_out w.uses
