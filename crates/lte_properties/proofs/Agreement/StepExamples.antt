-- Agreement step by step on worked runs: at which steps stations make a key for an air address and the phone takes one, and
-- whether the lines of two steps tell one key. In the ordinary scenario each key taken was made at an earlier step and is
-- told at both; with seven steps ahead the lines of both steps tell one key, with eight they do not.
use Rattle.std.proofs.Common.{◌≡◌, ℕ, ◌+◌, Bool, true, false, refl, List, [], ◌∷◌, length, Option, Some, None}
use Rattle.std.specs.Prelude.{slice_get}
use Rattle.lte_events.specs.declared.events.Event.{Event}
use Rattle.key_model.specs.Term.{Term, same_term}
use Rattle.lte_machine.specs.{Opening.open_octets, Wire.Outgoing}
use Rattle.lte_machine.specs.Reply.{Note, Made, Took}
use Rattle.lte_machine.specs.Run.{RunState, Running, Stopped, turn, EventReport, Reported, report}
use Rattle.lte_machine.proofs.{LateAnswers.seven_ahead, LateAnswers.eight_ahead, Ordinary.ordinary}
use Rattle.lte_machine.proofs.Scenario.{computing, machine, start, toy}

abbrev Runs : Type 0
Runs = RunState Term ℕ (Outgoing Term ℕ)

-- a step, with the station and air address
abbrev At : Type 0
At = ℕ × ℕ × ℕ

abbrev made_in : Runs → List (Made Term ℕ)
made_in (Running w) = w.made
made_in (Stopped coincidence) = []

abbrev took_in : Runs → List (Took Term ℕ)
took_in (Running w) = w.took
took_in (Stopped coincidence) = []

-- with step k, where this came new
abbrev with_made : ℕ → Option (Made Term ℕ) → List At → List At
with_made k None rest = rest
with_made k (Some m) rest = (k, m.station, m.air) ∷ rest

abbrev with_took : ℕ → Option (Took Term ℕ) → List At → List At
with_took k None rest = rest
with_took k (Some x) rest = (k, x.station, x.air) ∷ rest

abbrev makes : Runs → ℕ → List Event → List At
makes r k [] = []
makes r k (e ∷ es) =
    let s = turn (open_octets toy) machine r e in
    with_made k (slice_get (made_in s) (length (made_in r))) (makes s (k + 1) es)

abbrev takes : Runs → ℕ → List Event → List At
takes r k [] = []
takes r k (e ∷ es) =
    let s = turn (open_octets toy) machine r e in
    with_took k (slice_get (took_in s) (length (took_in r))) (takes s (k + 1) es)

-- whether two lines tell one key
abbrev one_key : Option (Note Term) → Option (Note Term) → Option Bool
one_key (Some a) (Some b) = Some (same_term a.key b.key)
one_key a b = None

abbrev note_in : Option (EventReport Term) → Option (Note Term)
note_in (Some (Reported l)) = l.note
note_in other = None

abbrev tell_one : ℕ → ℕ → List Event → Option Bool
tell_one i j events =
    let told = report (open_octets toy) machine start events in one_key (note_in (slice_get told i)) (note_in (slice_get told j))

-- the ordinary scenario: a context at station 0, a handover to station 1 and one back
ordinary_makes : makes start 0 ordinary ≡ ((5, 0, 1) ∷ (11, 1, 1) ∷ (20, 0, 3) ∷ [])
unfolding computing
ordinary_makes = refl

ordinary_takes : takes start 0 ordinary ≡ ((6, 0, 1) ∷ (14, 1, 1) ∷ (23, 0, 3) ∷ [])
unfolding computing
ordinary_takes = refl

first_key : tell_one 5 6 ordinary ≡ Some true
unfolding computing
first_key = refl

second_key : tell_one 11 14 ordinary ≡ Some true
unfolding computing
second_key = refl

third_key : tell_one 20 23 ordinary ≡ Some true
unfolding computing
third_key = refl

-- and not that of another step
other_key : tell_one 11 23 ordinary ≡ Some false
unfolding computing
other_key = refl

-- late answers: the last command
seven_key : tell_one 60 63 seven_ahead ≡ Some true
unfolding computing
seven_key = refl

eight_key : tell_one 67 70 eight_ahead ≡ Some false
unfolding computing
eight_key = refl
