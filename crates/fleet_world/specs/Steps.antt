-- What an answer leaves of the worlds of a fleet.
use Rattle.std.specs.Prelude.{◌≡◌, ℕ, List, [], ◌∷◌, ◌++◌, Result, Ok, Err, slice_set}
use Rattle.lte_events.specs.declared.events.Event.{Event}
use Rattle.lte_world.specs.Whole.{Whole}
use Rattle.fleet_world.specs.{declared.faults.FleetFault.FleetFault, declared.lines.FleetLine.FleetLine, Answers.own_at}
use Rattle.fleet_world.specs.declared.faults.FleetFault.TheVariants as fault
use Rattle.fleet_world.specs.declared.lines.FleetLine.TheVariants as line
use Rattle.fleet_world.specs.Fleets.{Fleeted, owns_in, world_of}

-- the world of phone p with one event more
abbrev pub world_after : Fleeted → ℕ → Event → Whole
world_after v p e = world_of v.setup (own_at (owns_in v) p ++ e ∷ [])

-- a line and a Cross leave the world of the phone with the event; Taken and want of memory leave all as they were; and a Chance
-- ends the world of the phone and leaves the others
abbrev pub Leaves : Fleeted → List Whole → ℕ → Event → Result FleetLine FleetFault → Type 0
Leaves v after p e (Ok (line.Of q told)) = after ≡ slice_set v.worlds p (world_after v p e)
Leaves v after p e (Ok (line.Taken q)) = after ≡ v.worlds
Leaves v after p e (Err (fault.Cross phone row other other_row)) = after ≡ slice_set v.worlds p (world_after v p e)
Leaves v after p e (Err (fault.Chance q proof)) = (w : Whole) × (after ≡ slice_set v.worlds p w)
Leaves v after p e (Err fault.Memory) = after ≡ v.worlds
