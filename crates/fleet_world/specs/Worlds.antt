-- The worlds of a fleet: their ladders, and what a step of one of them does.
use Rattle.std.specs.Prelude.{◌≡◌, ℕ, List, [], ◌∷◌, ◌++◌, length, map, Option, Some, None, Result, Ok, Err, true, false, slice_get, slice_set}
use Rattle.lte_events.specs.{declared.events.Event.Event, declared.lines.Line.Line}
use Rattle.key_terms.specs.declared.row.LadderRow.{LadderRow}
use Rattle.lte_world.specs.declared.faults.WorldFault.{WorldFault}
use Rattle.lte_world.specs.declared.faults.WorldFault.TheVariants as fault
use Rattle.lte_world.specs.Whole.{Whole, run_of, told_of, CanApply}
use Rattle.lte_machine.specs.Run.{GoesOn}
use Rattle.fleet_world.specs.{Meeting.root_among, Phones.rows_in, Phones.without}

-- no coincidence ended it
abbrev pub Goes : Whole → Type 0
Goes v = GoesOn (run_of v)

-- the rows of its ladder
abbrev pub rows_at : Whole → List LadderRow
rows_at v = rows_in (run_of v)

abbrev pub ladders_in : List Whole → List (List LadderRow)
ladders_in worlds = map rows_at worlds

-- those of the other phones
abbrev pub others_in : ℕ → List Whole → List (List LadderRow)
others_in p worlds = without p (ladders_in worlds)

abbrev pub taken_in : List Whole → ℕ → Event → Option ℕ
taken_in worlds p (Event.Auth ksi root caps) = root_among (others_in p worlds) root
taken_in worlds p other = None

-- the world with room for one event
abbrev pub with_room : Whole → Whole
with_room v = record v { ready = true }

-- a world takes an event: what it answers, with the number of the rows before it
abbrev pub Takes : Whole → Whole → Event → Result (ℕ × Line) WorldFault → Type 0
Takes before after e (Ok r) =
    (r.0 ≡ length (rows_at before))
    × (Ok r.1 ≡ told_of before e)
    × (after ≡ record before { journal = before.journal ++ e ∷ []; ready = false })
Takes before after e (Err fault.Memory) = after ≡ before
Takes before after e (Err (fault.Chance proof)) = Err (fault.Chance proof) ≡ told_of before e

-- that of the phone at a place
pub record TakesAt (before after : List Whole) (place : ℕ) (e : Event) (result : Result (ℕ × Line) WorldFault) : Type 0 where
  pub old : Whole
  pub new : Whole
  pub stands : slice_get before place ≡ Some old
  pub takes : Takes old new e result
  pub put : after ≡ slice_set before place new

-- it can
pub record CanTakeAt (worlds : List Whole) (place : ℕ) (e : Event) : Type 0 where
  pub world : Whole
  pub stands : slice_get worlds place ≡ Some world
  pub goes : Goes world
  pub can : CanApply (with_room world) e
