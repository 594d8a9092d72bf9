-- What items come to: the events that happen, in which each delivery has the number of its record in this very run.
use Rattle.std.specs.Prelude.{ℕ, zero, suc, ◌==◌, pos, List, [], ◌∷◌, ◌++◌, find, slice_get, Option, Some, None, Result, Ok, Err}
use Rattle.std.specs.Option.{option_map}
use Rattle.key_terms.specs.declared.proof.Proof.{Proof}
use Rattle.lte_events.specs.{declared.events.Event.Event, declared.lines.Line.Line, declared.lines.Who.Who}
use Rattle.lte_world.specs.declared.faults.WorldFault.{WorldFault}
use Rattle.lte_world.specs.declared.faults.WorldFault.TheVariants as fault
use Rattle.item_lines.specs.declared.lines.Told.{Told}
use Rattle.items.specs.{declared.Deed.Deed, declared.Item.Item}
use Rattle.items.specs.declared.Deed.TheVariants as deed
use Rattle.item_runs.specs.declared.sent.Sent.{Sent}

-- what items have come to
pub record Coming : Type 0 where
  -- the events that were told with a line, in order
  pub events : List Event
  -- their lines, each with the name of its item
  pub told : List Told
  -- the records that items sent and that were not delivered at once
  pub sent : List Sent
  -- the coincidence that ended all, if one did
  pub over : Option Proof

abbrev pub nothing : Coming
nothing = record { events = []; told = []; sent = []; over = None }

-- ONE EVENT

abbrev pub told_line : ℕ → Line → Option (ℕ × ℕ) → Told
told_line name line at = record { name = name; line = line; at = at }

-- what an event of the item of this name comes to, by what is told of it and by the address of who acted behind it
abbrev pub after_told : (List Event → Who → Option (ℕ × ℕ)) → ℕ → Event → Coming → Result Line WorldFault → Coming
after_told at name e c (Ok line) =
    record c { events = c.events ++ e ∷ []; told = c.told ++ told_line name line (at (c.events ++ e ∷ []) line.who) ∷ [] }
after_told at name e c (Err (fault.Chance proof)) = record c { over = Some proof }
after_told at name e c (Err fault.Memory) = c

-- and the number of the record that was sent
abbrev pub number_told : Result Line WorldFault → Option ℕ
number_told (Ok line) = option_map (λ s. s.0) line.sent
number_told (Err fault) = None

-- a record is kept for the item that delivers it
abbrev pub kept : ℕ → Option ℕ → Coming → Coming
kept name None c = c
kept name (Some number) c = record c { sent = c.sent ++ record { name = name; number = number } ∷ [] }

-- or something happens with it
abbrev pub and_then : (ℕ → Coming → Coming) → Option ℕ → Coming → Coming
and_then next None c = c
and_then next (Some number) c = next number c

-- the record that the item of this name sent
abbrev pub record_of : ℕ → List Sent → Option ℕ
record_of name sent = option_map (λ s. s.number) (find (λ s. s.name == name) sent)

-- the event that an item is, with these acts: none where its delivery falls away
abbrev pub event_in : List Event → List Sent → Deed → Option Event
event_in acts sent (deed.Act place) = slice_get acts place
event_in acts sent (deed.Delivery of) = option_map (λ number. Event.Deliver (pos number)) (record_of of sent)

-- A LIST OF ITEMS, by what is told of one event more
module _ (told : List Event → Event → Result Line WorldFault) (at : List Event → Who → Option (ℕ × ℕ)) where
  -- an event of the item of this name; so often what is sent is delivered at once
  unfoldable pub happening : ℕ → ℕ → Event → Coming → Coming
  happening zero name e c = kept name (number_told (told c.events e)) (after_told at name e c (told c.events e))
  happening (suc times) name e c =
      and_then (λ number d. happening times name (Event.Deliver (pos number)) d)
      (number_told (told c.events e)) (after_told at name e c (told c.events e))

  -- an item: nothing where its delivery falls away, or after a coincidence
  abbrev pub by_event : Option Proof → Option Event → Item → Coming → Coming
  by_event None (Some e) i c = happening i.at_once i.name e c
  by_event None None i c = c
  by_event (Some proof) o i c = c

  abbrev pub with_item : List Event → Item → Coming → Coming
  with_item acts i c = by_event c.over (event_in acts c.sent i.deed) i c

  -- one item after the other
  unfoldable pub coming_from : List Event → List Item → Coming → Coming
  coming_from acts [] c = c
  coming_from acts (i ∷ is) c = coming_from acts is (with_item acts i c)
