-- Late and lost answers to path switches, and eight chain steps (TS 33.401 7.2.8.4.2 and 7.2.8.4.4).
use Rattle.std.specs.Prelude.{◌≡◌, ℕ, ◌-◌, ◌==◌, ◌&&◌, Bool, true, false, List, [], ◌∷◌, ◌++◌, take, reverse, find, Option, Some, None, replicate}
use Rattle.std.proofs.Common.{refl}
use Rattle.rec_base.specs.declared.ways.Way.TheVariants.{Horizontal, Vertical, Given, Completed, Chained}
use Rattle.lte_events.specs.declared.answers.Answer.TheVariants.{MacFails, NoUe, Stale}
use Rattle.lte_events.specs.declared.events.Event.{Event}
use Rattle.key_model.specs.Term.{Term, same_term, Root, Kenb, Nh}
use Rattle.lte_machine.specs.{Opening.open_octets, Wire.Outgoing, World.Holder, World.AtStation}
use Rattle.lte_machine.specs.Reply.{Made, Took, Came, Commanded}
use Rattle.lte_machine.specs.Run.{RunState, Running, Stopped, replay}
use Rattle.lte_machine.proofs.Scenario.{ask, computing, done, from_step, machine, newest, notes, number, refuses, start, toy, x2_to}
use Rattle.lte_machine.proofs.Ordinary.{ordinary}
use Rattle.std.specs.List.{list_any}

-- the answer to the path switch is late: the next handover is horizontal, and the late answer finds no context
late_answer : from_step 17 (take 17 ordinary ++ x2_to 1 0 ++ newest ∷ newest ∷ newest ∷ number 11 ∷ []) ≡ (
    notes 0 Horizontal ∷ notes 0 Given ∷ done ∷ done ∷ notes 0 Horizontal ∷ notes 0 Completed ∷ notes 2 Chained ∷ done ∷ done
    ∷ refuses NoUe ∷ [])
unfolding computing
late_answer = refl

-- a request is made again: the answer to the first is stale, that to the second is taken, and its pair serves
asked_twice : from_step 16 (take 16 ordinary ++ ask 1 ∷ number 10 ∷ number 11 ∷ number 12 ∷ number 13 ∷ x2_to 1 0) ≡ (
    done ∷ notes 1 Chained ∷ notes 2 Chained ∷ refuses (Stale 3 2) ∷ done
    ∷ notes 2 Vertical ∷ notes 2 Given ∷ done ∷ done ∷ notes 2 Vertical ∷ notes 2 Completed ∷ [])
unfolding computing
asked_twice = refl

-- the station that refuses the stale answer holds its NH all the same
abbrev kasme : Term
kasme = Root 0 (replicate 32 1)

abbrev first_nh : Term
first_nh = Nh kasme (Kenb kasme 0)

abbrev at_station : ℕ → Holder → Bool
at_station id (AtStation station) = station == id
at_station id other = false

abbrev holds_key : ℕ → Term → RunState Term ℕ (Outgoing Term ℕ) → Bool
holds_key id t (Running w) = list_any (λ h. at_station id h.holder && same_term h.key t) w.held
holds_key id t (Stopped coincidence) = false

abbrev to_stale : List Event
to_stale = take 16 ordinary ++ ask 1 ∷ number 10 ∷ number 11 ∷ []

not_held : holds_key 1 first_nh (replay (open_octets toy) machine start to_stale) ≡ false
unfolding computing
not_held = refl

stale_held : holds_key 1 first_nh (replay (open_octets toy) machine start (to_stale ++ number 12 ∷ [])) ≡ true
unfolding computing
stale_held = refl

-- the phone leaves before the answer and comes back: the answer of its first visit is stale
returned : from_step 29 (take 17 ordinary ++ x2_to 1 0 ++ x2_to 0 1 ++ number 11 ∷ []) ≡ (refuses (Stale 5 2) ∷ [])
unfolding computing
returned = refl

-- a handover whose request reaches the core, and whose answer is lost
abbrev lost : ℕ → ℕ → List Event
lost s target = x2_to s target ++ newest ∷ []

-- and one whose answer reaches the target
abbrev kept : ℕ → ℕ → List Event
kept s target = lost s target ++ newest ∷ newest ∷ []

abbrev six_lost : List Event
six_lost = take 8 ordinary ++ lost 0 1 ++ lost 1 0 ++ lost 0 1 ++ lost 1 0 ++ lost 0 1 ++ lost 1 0

-- seven steps ahead, and eight
abbrev pub seven_ahead : List Event
seven_ahead = six_lost ++ kept 0 1 ++ x2_to 1 0

abbrev pub eight_ahead : List Event
eight_ahead = six_lost ++ lost 0 1 ++ kept 1 0 ++ x2_to 0 1

-- seven: the phone steps to the pair's number, and the handover completes
seven_steps : from_step 59 seven_ahead ≡ (
    notes 7 Vertical ∷ notes 7 Given ∷ done ∷ done ∷ notes 7 Vertical ∷ notes 7 Completed ∷ [])
unfolding computing
seven_steps = refl

-- eight: the NCC is the phone's own, it derives horizontally, and its Complete does not open
eight_steps : from_step 66 eight_ahead ≡ (
    notes 0 Vertical ∷ notes 0 Given ∷ done ∷ done ∷ notes 0 Horizontal
    ∷ refuses (MacFails 0 [] []) ∷ [])
unfolding computing
eight_steps = refl

-- the key made for an air address
abbrev made_for : Took Term ℕ → List (Made Term ℕ) → Option (Made Term ℕ)
made_for t made = find (λ m. (m.station == t.station) && (m.air == t.air)) made

abbrev compared : Took Term ℕ → Came Term ℕ → Option (Made Term ℕ) → Option (ℕ × Bool)
compared t (Commanded before) (Some m) = Some (m.number - before.number, same_term m.key t.key)
compared t came made = None

abbrev last_of : List (Took Term ℕ) → List (Made Term ℕ) → Option (ℕ × Bool)
last_of [] made = None
last_of (t ∷ took) made = compared t t.came (made_for t made)

abbrev at_end : RunState Term ℕ (Outgoing Term ℕ) → Option (ℕ × Bool)
at_end (Running w) = last_of (reverse w.took) w.made
at_end (Stopped coincidence) = None

-- how far ahead the key was that the phone was ordered last, and whether the phone took it
abbrev pub last_order : List Event → Option (ℕ × Bool)
last_order events = at_end (replay (open_octets toy) machine start events)

seven_agree : last_order seven_ahead ≡ Some (7, true)
unfolding computing
seven_agree = refl

eight_differ : last_order eight_ahead ≡ Some (8, false)
unfolding computing
eight_differ = refl
