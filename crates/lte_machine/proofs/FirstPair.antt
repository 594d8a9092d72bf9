-- A core that derives the NH of number 1 as a chain begins, and keeps it: the first pair that it sends has NCC 2 (TS 33.401
-- 7.2.8.1.1).
use Rattle.std.specs.Prelude.{◌≡◌, if◌then◌else◌, List, [], ◌∷◌, ◌++◌, drop, take, replicate, Option, ℕ}
use Rattle.std.proofs.Common.{refl}
use Rattle.rec_base.specs.declared.ways.Way.TheVariants.{Horizontal, Vertical, Given, Completed, Chained}
use Rattle.lte_events.specs.{declared.answers.Answer.TheVariants.MacFails, declared.classes.Class.Class, declared.events.Event.Event, declared.setups.FirstNcc.FirstNcc}
use Rattle.key_model.specs.Term.{Term, Root, Kenb, Nh, same_term}
use Rattle.lte_machine.specs.{Opening.open_octets, Wire.Outgoing}
use Rattle.lte_machine.specs.Run.{RunState, Running, Stopped, first_world, replay, report}
use Rattle.lte_machine.specs.World.{Holding, Holder, AtCore, AtPhone}
use Rattle.lte_machine.proofs.{KeyChanges.changed, LateAnswers.seven_ahead}
use Rattle.lte_machine.proofs.Ordinary as ordinary
use Rattle.lte_machine.proofs.Scenario.{Brief, Short, briefs, computing, done, machine, newest, notes, opening, refuses, s1, setup, shorts, toy, x2_to}

abbrev begins : RunState Term ℕ (Outgoing Term ℕ)
begins = Running (first_world (record setup { core_first_ncc = FirstNcc.Two }))

abbrev told : List Event → List (Option Brief)
told events = briefs (report (open_octets toy) machine begins events)

abbrev from_step : ℕ → List Event → List Short
from_step n events = drop n (shorts (told events))

-- the ordinary scenario: what has NCC 1 there has NCC 2 here, and no other line differs
abbrev ordinary_report : List (Option Brief)
ordinary_report =
    take 16 ordinary.ordinary_report
    ++ (ordinary.notes 11 Class.S1 2 Chained ∷ ordinary.sends 12 Class.X2 ∷ ordinary.done
    ∷ ordinary.notes 13 Class.X2 2 Vertical ∷ ordinary.notes 14 Class.X2 2 Given ∷ ordinary.done ∷ ordinary.sends 15 Class.Air
    ∷ ordinary.notes 16 Class.Air 2 Vertical ∷ ordinary.notes 17 Class.S1 2 Completed ∷ ordinary.sends 18 Class.Air
    ∷ ordinary.opens (0x6f ∷ 0x6b ∷ []) ∷ [])

ordinary_scenario : told ordinary.ordinary ≡ ordinary_report
unfolding computing
ordinary_scenario = refl

-- a handover over S1 gives the target NCC 2
over_s1 : from_step 8 (opening ++ s1 0 1 ∷ newest ∷ newest ∷ []) ≡ (done ∷ notes 2 Chained ∷ notes 2 Vertical ∷ [])
unfolding computing
over_s1 = refl

-- a key change begins anew, and keeps the NH of number 1 again
after_change : from_step 15 (changed ++ x2_to 0 1 ++ newest ∷ []) ≡ (
    notes 0 Horizontal ∷ notes 0 Given ∷ done ∷ done ∷ notes 0 Horizontal ∷ notes 0 Completed ∷ notes 2 Chained ∷ [])
unfolding computing
after_change = refl

-- it is one step ahead from the beginning: six lost answers and a seventh are too many
eight_sooner : from_step 59 seven_ahead ≡ (
    notes 0 Vertical ∷ notes 0 Given ∷ done ∷ done ∷ notes 0 Horizontal ∷ refuses (MacFails 0 [] []) ∷ [])
unfolding computing
eight_sooner = refl

-- who holds the NH of number 1: the core, and the phone once it climbs past it
abbrev kasme : Term
kasme = Root 0 (replicate 32 1)

abbrev held_by : Term → List (Holding Term) → List Holder
held_by t [] = []
held_by t (h ∷ held) = if same_term h.key t then h.holder ∷ held_by t held else held_by t held

abbrev hold : RunState Term ℕ (Outgoing Term ℕ) → List Holder
hold (Running w) = held_by (Nh kasme (Kenb kasme 0)) w.held
hold (Stopped coincidence) = []

abbrev holders : List Event → List Holder
holders events = hold (replay (open_octets toy) machine begins events)

kept_by_core : holders opening ≡ (AtCore ∷ [])
unfolding computing
kept_by_core = refl

sent_to_nobody : holders ordinary.ordinary ≡ (AtCore ∷ AtPhone ∷ [])
unfolding computing
sent_to_nobody = refl
