-- What a fleet answers to an event of one of its phones, and which events are a phone's own.
use Rattle.std.specs.Prelude.{ℕ, List, [], ◌∷◌, ◌++◌, length, drop, Option, Some, None, Result, Ok, Err, slice_set, slice_index_or, replicate}
use Rattle.lte_events.specs.{declared.events.Event.Event, declared.setups.Setup.Setup}
use Rattle.key_terms.specs.Ladder.{row}
use Rattle.lte_machine.specs.Calls.{line_out}
use Rattle.lte_machine.specs.Run.{EventReport, Reported, Coincided}
use Rattle.store_laws.specs.Proofs.{proof_of}
use Rattle.fleet_world.specs.{declared.faults.FleetFault.FleetFault, declared.lines.FleetLine.FleetLine}
use Rattle.fleet_world.specs.declared.faults.FleetFault.TheVariants as fault
use Rattle.fleet_world.specs.declared.lines.FleetLine.TheVariants as line
use Rattle.fleet_world.specs.Meeting.{Meeting, root_among, meeting_from}
use Rattle.fleet_world.specs.Phones.{phone_told, phone_rows, others}

-- a phone's own events
abbrev pub own_at : List (List Event) → ℕ → List Event
own_at owns p = slice_index_or owns p []

-- the phone that has this root already: the least one but this
abbrev pub taken_by : Setup → List (List Event) → ℕ → Event → Option ℕ
taken_by setup owns p (Event.Auth ksi root caps) = root_among (others setup p owns) root
taken_by setup owns p other = None

-- the first key that an event adds to a phone's ladder and another phone's ladder has
abbrev pub crossing : Setup → List (List Event) → ℕ → Event → Option Meeting
crossing setup owns p e =
    let before = length (phone_rows setup (own_at owns p)) in
    meeting_from (others setup p owns) before (drop before (phone_rows setup (own_at owns p ++ e ∷ [])))

abbrev pub cross_of : ℕ → Meeting → FleetFault
cross_of p m = fault.Cross p (row m.row) m.other (row m.other_row)

-- TAKEN, COINCIDENCE AND CROSS, in this order

abbrev pub unless_met : ℕ → EventReport (List ℕ) → Option Meeting → Result FleetLine FleetFault
unless_met p (Coincided coincidence) met = Err (fault.Chance p (proof_of coincidence))
unless_met p (Reported told) None = Ok (line.Of p (line_out told))
unless_met p (Reported told) (Some m) = Err (cross_of p m)

abbrev pub unless_taken : ℕ → Option ℕ → EventReport (List ℕ) → Option Meeting → Result FleetLine FleetFault
unless_taken p (Some q) told met = Ok (line.Taken q)
unless_taken p None told met = unless_met p told met

-- the answer to an event of phone p, where these are the phones' own events
abbrev pub answer : Setup → List (List Event) → ℕ → Event → Result FleetLine FleetFault
answer setup owns p e = unless_taken p (taken_by setup owns p e) (phone_told setup (own_at owns p) e) (crossing setup owns p e)

-- OWN EVENTS

-- an event that is not Taken is its phone's own
abbrev pub owned_if : Option ℕ → List (List Event) → ℕ → Event → List (List Event)
owned_if (Some q) owns p e = owns
owned_if None owns p e = slice_set owns p (own_at owns p ++ e ∷ [])

abbrev pub owns_after : Setup → List (List Event) → ℕ → Event → List (List Event)
owns_after setup owns p e = owned_if (taken_by setup owns p e) owns p e

abbrev pub owns_from : Setup → List (List Event) → List (ℕ × Event) → List (List Event)
owns_from setup owns [] = owns
owns_from setup owns (x ∷ xs) = owns_from setup (owns_after setup owns x.0 x.1) xs

-- so many phones, to which nothing has happened
abbrev pub no_events : ℕ → List (List Event)
no_events phones = replicate phones []

-- the own events of each phone: its events in order, without those that are Taken
abbrev pub owns_of : Setup → ℕ → List (ℕ × Event) → List (List Event)
owns_of setup phones events = owns_from setup (no_events phones) events

unfoldable pub own : Setup → ℕ → List (ℕ × Event) → ℕ → List Event
own setup phones events p = own_at (owns_of setup phones events) p
