-- Turns of handovers: a cancelled S1 handover, two preparations under one key, and handover within a station.
use Rattle.std.specs.Prelude.{◌≡◌, ℕ, Bool, true, false, List, [], ◌∷◌, ◌++◌, map}
use Rattle.std.specs.List.{list_any}
use Rattle.std.proofs.Common.{refl}
use Rattle.rec_base.specs.declared.ways.Way.TheVariants.{Horizontal, Vertical, Given, Completed, Chained}
use Rattle.lte_events.specs.declared.answers.Answer.TheVariants.{AttemptOpen, CommandSent, NoPathSwitch, UnknownCell}
use Rattle.lte_events.specs.declared.events.Event.{Event}
use Rattle.key_model.specs.Term.{Term, same_term}
use Rattle.lte_machine.specs.{Wire.KeyUse, Wire.Outgoing, Opening.open_octets, Opening.same_uses, Reply.Made, World.World}
use Rattle.lte_machine.specs.Run.{RunState, Running, Stopped, replay}
use Rattle.lte_machine.proofs.Scenario.{ask, cancel, command, computing, done, from_step, intra, machine, newest, notes, opening, refuses, s1, start, toy, x2, x2_to}

-- an S1 handover is cancelled: its chain step stays taken, and the source never held that NH
abbrev cancelled_s1 : List Event
cancelled_s1 =
    opening ++ s1 0 1 ∷ newest ∷ newest ∷ cancel 0 ∷ x2_to 0 1 ++ newest ∷ newest ∷ newest ∷ x2_to 1 0

s1_cancelled : from_step 8 cancelled_s1 ≡ (
    done ∷ notes 1 Chained ∷ notes 1 Vertical ∷ done
    ∷ notes 0 Horizontal ∷ notes 0 Given ∷ done ∷ done ∷ notes 0 Horizontal ∷ notes 0 Completed ∷ notes 2 Chained ∷ done ∷ done
    ∷ notes 2 Vertical ∷ notes 2 Given ∷ done ∷ done ∷ notes 2 Vertical ∷ notes 2 Completed ∷ [])
unfolding computing
s1_cancelled = refl

-- the world at the end, if no coincidence came
abbrev World_ : Type 0
World_ = World Term ℕ (Outgoing Term ℕ)

abbrev ends : List Event → RunState Term ℕ (Outgoing Term ℕ)
ends events = replay (open_octets toy) machine start events

abbrev in_end : {A : Type 0} → A → (World_ → A) → RunState Term ℕ (Outgoing Term ℕ) → A
in_end none f (Running w) = f w
in_end none f (Stopped coincidence) = none

-- two preparations under one key: a request is cancelled at the source, and made again
abbrev prepared_twice : List Event
prepared_twice =
    opening ++ x2 0 1 ∷ newest ∷ cancel 0 ∷ x2 0 1 ∷ newest ∷ newest ∷ command 0 ∷ command 0 ∷ newest ∷ newest ∷ []

twice_prepared : from_step 8 prepared_twice ≡ (
    notes 0 Horizontal ∷ notes 0 Given ∷ done ∷ notes 0 Horizontal ∷ notes 0 Given ∷ done ∷ done ∷ done
    ∷ notes 0 Horizontal ∷ notes 0 Completed ∷ [])
unfolding computing
twice_prepared = refl

-- both have one key and two air addresses, and after the Complete no preparation is left
abbrev airs : World_ → List (ℕ × ℕ)
airs w = map (λ m. (m.station, m.air)) w.made

two_addresses : in_end [] airs (ends prepared_twice) ≡ ((0, 1) ∷ (1, 1) ∷ (1, 2) ∷ [])
unfolding computing
two_addresses = refl

abbrev keys_are_one : List (Made Term ℕ) → Bool
keys_are_one (a ∷ b ∷ c ∷ []) = same_term b.key c.key
keys_are_one other = false

one_key : in_end false (λ w. keys_are_one w.made) (ends prepared_twice) ≡ true
unfolding computing
one_key = refl

-- no use stands twice
abbrev apart_from : Bool → Bool → Bool
apart_from true rest = false
apart_from false rest = rest

abbrev apart : List (KeyUse Term) → Bool
apart [] = true
apart (u ∷ us) = apart_from (list_any (same_uses same_term u) us) (apart us)

no_use_twice : in_end false (λ w. apart w.uses) (ends prepared_twice) ≡ true
unfolding computing
no_use_twice = refl

-- within a station: the attempt is ready at once, no record goes out but the command, and it completes with none
within : from_step 8 (opening ++ intra 0 ∷ command 0 ∷ newest ∷ newest ∷ []) ≡ (
    notes 0 Horizontal ∷ done ∷ notes 0 Horizontal ∷ notes 0 Completed ∷ [])
unfolding computing
within = refl

-- it cannot be cancelled once commanded; X2 to the station's own cell is refused, and so is a path switch that no X2 began
refused_beside : from_step 8 (opening ++ intra 0 ∷ x2 0 1 ∷ command 0 ∷ cancel 0 ∷ x2 0 0 ∷ ask 0 ∷ []) ≡ (
    notes 0 Horizontal ∷ refuses (AttemptOpen 2) ∷ done ∷ refuses CommandSent ∷ refuses UnknownCell ∷ refuses NoPathSwitch ∷ [])
unfolding computing
refused_beside = refl
