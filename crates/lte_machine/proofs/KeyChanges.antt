-- Changes of the key on the fly, after a new authentication and Security Mode (TS 33.401 7.2.9.2).
use Rattle.std.specs.Prelude.{◌≡◌, ℕ, ◌+◌, List, [], ◌∷◌, ◌++◌, drop, take, map, replicate, Option, Some, None}
use Rattle.std.proofs.Common.{refl}
use Rattle.alg_choice.specs.declared.algs.Eea.TheVariants.{Eea2}
use Rattle.rec_base.specs.declared.bearers.Bearer.TheVariants.{Srb1, Srb2}
use Rattle.rec_base.specs.declared.ways.Way.TheVariants.{Initial, Given, Completed}
use Rattle.lte_events.specs.{declared.acts.PhoneAct.PhoneAct, declared.answers.Answer.Answer, declared.classes.Class.Class, declared.events.Event.Event}
use Rattle.lte_events.specs.declared.answers.Answer.TheVariants.{Done, MacFails, WrongKind, OldConnection, NoTrigger}
use Rattle.key_model.specs.Term.{Term, Root, Kenb, Star}
use Rattle.rrc_rec.specs.{declared.records.RrcRecord.RrcRecord, Spelling.spelling_of}
use Rattle.lte_machine.specs.{Opening.Opened, Opening.open_octets, PhoneState.PhoneAirPdu, PhoneStep.phone_step, Reply.Took, Wire.Outgoing}
use Rattle.lte_machine.specs.Run.{RunState, Running, Stopped, replay}
use Rattle.lte_machine.proofs.Ordinary.{done, notes, sends}
use Rattle.lte_machine.proofs.Scenario.{Brief, auth, computing, connect, machine, newest, number, opening, place, smc, start, told, toy}

abbrev told_after : ℕ → List Event → List (Option Brief)
told_after n events = drop n (told events)

abbrev refuses : Answer → Option Brief
refuses answer = Some (answer, None, None, None)

-- a new KASME, and a new Security Mode while the phone is connected: its key changes at once
abbrev renewed : List Event
renewed = auth 1 2 ∷ smc ∷ newest ∷ newest ∷ []

abbrev pub changed : List Event
changed = opening ++ renewed ++ newest ∷ newest ∷ newest ∷ []

key_changes : told_after 8 (changed ++ number 7 ∷ []) ≡ (
    done ∷ sends 5 Class.Nas ∷ sends 6 Class.Nas ∷ notes 7 Class.S1 0 Initial ∷ notes 8 Class.Air 0 Given
    ∷ notes 9 Class.Air 0 Initial ∷ Some (Done, None, Some (0, Completed), None) ∷ refuses (OldConnection 2 1) ∷ [])
unfolding computing
key_changes = refl

-- the phone was idle: it waits, and asks for a connection, and the late change is of a connection that is gone
abbrev idle_changed : List Event
idle_changed =
    opening ++ Event.Phone PhoneAct.GoIdle ∷ renewed
    ++ Event.Phone PhoneAct.ServiceRequest ∷ newest ∷ connect 0 ∷ newest ∷ number 7 ∷ []

idle_change : told_after 8 idle_changed ≡ (
    done ∷ done ∷ sends 5 Class.Nas ∷ sends 6 Class.Nas ∷ notes 7 Class.S1 0 Initial
    ∷ sends 8 Class.Nas ∷ done ∷ notes 9 Class.S1 0 Initial ∷ notes 10 Class.Air 0 Given ∷ refuses (OldConnection 3 1) ∷ [])
unfolding computing
idle_change = refl

-- a further Security Mode comes before the order: the phone derives from the newer KASME, and its Complete does not open
abbrev pub changed_twice : List Event
changed_twice = take 13 changed ++ auth 2 3 ∷ smc ∷ newest ∷ number 8 ∷ newest ∷ []

twice_changed : told_after 13 changed_twice ≡ (
    done ∷ sends 9 Class.Nas ∷ sends 10 Class.Nas ∷ notes 11 Class.Air 0 Initial ∷ refuses (MacFails 0 [] []) ∷ [])
unfolding computing
twice_changed = refl

-- the keys that the phone took, after authentications with octets 1, 2 and 3
abbrev kasme : ℕ → Term
kasme r = Root r (replicate 32 (r + 1))

abbrev keys_of : List (Took Term ℕ) → List Term
keys_of took = map (λ t. t.key) took

abbrev taken : RunState Term ℕ (Outgoing Term ℕ) → List Term
taken (Running w) = keys_of w.took
taken (Stopped coincidence) = []

abbrev at_end : List Event → RunState Term ℕ (Outgoing Term ℕ)
at_end events = replay (open_octets toy) machine start events

changed_keys : taken (at_end changed) ≡ (Kenb (kasme 0) 0 ∷ Star (Kenb (kasme 1) 0) 10 100 ∷ [])
unfolding computing
changed_keys = refl

twice_changed_keys : taken (at_end changed_twice) ≡ (Kenb (kasme 0) 0 ∷ Star (Kenb (kasme 2) 0) 10 100 ∷ [])
unfolding computing
twice_changed_keys = refl

-- an order to change the key comes while the phone's KASME is still that of its connection
abbrev order : List ℕ
order = spelling_of (RrcRecord.KeyChange (place 0) (record { eea = Eea2 }) 0 2)

abbrev too_early : RunState Term ℕ (Outgoing Term ℕ) → Answer
too_early (Running w) =
    (phone_step machine.reading w.phone (PhoneAirPdu 0 1 Srb1 (1 ∷ 0 ∷ 0 ∷ 0 ∷ 0 ∷ [])) (Opened order)).1.answer
too_early (Stopped coincidence) = Done

nothing_new : too_early (at_end opening) ≡ NoTrigger
unfolding computing
nothing_new = refl

-- on SRB2 such an order is of the wrong kind, also where there is another KASME to derive from
abbrev on_srb2 : RunState Term ℕ (Outgoing Term ℕ) → Answer
on_srb2 (Running w) =
    (phone_step machine.reading w.phone (PhoneAirPdu 0 1 Srb2 (0 ∷ 0 ∷ 0 ∷ 0 ∷ 0 ∷ [])) (Opened order)).1.answer
on_srb2 (Stopped coincidence) = Done

other_bearer : on_srb2 (at_end (opening ++ renewed)) ≡ WrongKind 6
unfolding computing
other_bearer = refl
