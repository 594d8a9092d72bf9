-- The edges of a run: refused Security Modes, records that nobody sent, repeated roots, the last numbers, coincidences.
use Rattle.std.specs.Prelude.{◌≡◌, ℕ, List, [], ◌∷◌, ◌++◌, drop, replicate, Some, None}
use Rattle.std.proofs.Common.{refl}
use Rattle.alg_choice.specs.declared.algs.Eea.TheVariants.{Eea0, Eea2}
use Rattle.rec_base.specs.declared.bearers.Bearer.TheVariants.{Srb1, Srb2, Drb1}
use Rattle.lte_events.specs.{declared.acts.PhoneAct.PhoneAct, declared.addresses.Address.Address, declared.classes.Class.Class, declared.events.Event.Event, declared.setups.Setup.Setup}
use Rattle.lte_events.specs.declared.answers.Answer.TheVariants.{CapsMismatch, CountSpent, MacFails, NoRecord, NoSmc, NumberSpent, PrepFull, RepeatedRoot, Sent, WrongKsi}
use Rattle.lte_machine.specs.Opening.{open_octets}
use Rattle.lte_machine.specs.Run.{Running, first_world, report}
use Rattle.lte_machine.proofs.Scenario.{auth, briefs, cancel, computing, done, from_step, machine, newest, number, opening, refuses, setup, smc, told, toy, x2}

-- capabilities that are not the phone's: it refuses the command with a plain reject, which closes the procedure
other_caps : told (Event.Auth 0 (replicate 32 1) (record { eea = 0x80; eia = 0x20 }) ∷ smc ∷ newest ∷ newest ∷ smc ∷ []) ≡ (
    Some (done.0, None, None, None) ∷ Some (done.0, Some (0, Class.Nas), None, None)
    ∷ Some (CapsMismatch (record { eea = 0xa0; eia = 0x20 }) (record { eea = 0x80; eia = 0x20 }), Some (1, Class.Nas), None, None)
    ∷ Some (done.0, None, None, None) ∷ Some (done.0, Some (2, Class.Nas), None, None) ∷ [])
unfolding computing
other_caps = refl

-- a command of an earlier authentication: the phone refuses its KSI, and the core has no procedure open
other_ksi : from_step 0 (auth 0 1 ∷ smc ∷ auth 1 2 ∷ number 0 ∷ newest ∷ []) ≡ (
    done ∷ done ∷ done ∷ refuses (WrongKsi 1 0) ∷ refuses NoSmc ∷ [])
unfolding computing
other_ksi = refl

-- no such record; octets that nobody sent; octets that were sent; a root that is known
abbrev zeros : Event
zeros = Event.Inject (Address.Phone 0 1 Srb1) (replicate 20 0)

-- the RRC Security Mode Command of the opening
abbrev pasted : Event
pasted = Event.Inject (Address.Phone 0 1 Srb1) (0 ∷ 0x01 ∷ 0x22 ∷ 0 ∷ 0 ∷ 0 ∷ 0 ∷ 1 ∷ 0 ∷ 0 ∷ 7 ∷ 7 ∷ [])

beside_the_records : from_step 8 (opening ++ number 99 ∷ zeros ∷ pasted ∷ auth 1 1 ∷ []) ≡ (
    refuses NoRecord ∷ refuses (MacFails 32 [] []) ∷ refuses (Sent 3) ∷ refuses (RepeatedRoot 0) ∷ [])
unfolding computing
beside_the_records = refl

-- eight preparations whose cancels are lost, and a ninth
abbrev prepared : List Event
prepared = x2 0 1 ∷ newest ∷ cancel 0 ∷ []

abbrev eight : List Event
eight = prepared ++ prepared ++ prepared ++ prepared ++ prepared ++ prepared ++ prepared ++ prepared

ninth_preparation : from_step 33 (opening ++ eight ++ x2 0 1 ∷ newest ∷ []) ≡ (refuses PrepFull ∷ [])
unfolding computing
ninth_preparation = refl

-- a station whose last number was drawn as the air address
abbrev last_number : Setup
last_number = record setup {
  stations = record { id = 0; priority = Eea2 ∷ Eea0 ∷ []; first = 4294967295 } ∷ record { id = 1; priority = Eea2 ∷ Eea0 ∷ []; first = 1 } ∷ [];
}

number_spent : drop 8 (briefs (report (open_octets toy) machine (Running (first_world last_number)) (opening ++ x2 0 1 ∷ []))) ≡ (
    Some (NumberSpent, None, None, None) ∷ [])
unfolding computing
number_spent = refl

-- COUNTs left out: 4,095 on a DRB and the packet opens; the last COUNT is sent once
abbrev skips : ℕ → Event
skips n = Event.Phone (PhoneAct.Skip (Some Drb1) n)

abbrev packet : Event
packet = Event.Phone (PhoneAct.SendUser Drb1 (0x68 ∷ 0x69 ∷ []))

last_count : from_step 8 (opening ++ skips 4294967295 ∷ packet ∷ packet ∷ []) ≡ (done ∷ done ∷ refuses CountSpent ∷ [])
unfolding computing
last_count = refl

-- on SRB2, 31 left out open, and 32 do not
abbrev skips_2 : ℕ → Event
skips_2 n = Event.Phone (PhoneAct.Skip (Some Srb2) n)

abbrev data_2 : Event
data_2 = Event.Phone (PhoneAct.SendRrc Srb2 (0x61 ∷ []))

window : from_step 8 (opening ++ skips_2 31 ∷ data_2 ∷ newest ∷ skips_2 32 ∷ data_2 ∷ newest ∷ []) ≡ (
    done ∷ done ∷ done ∷ done ∷ done ∷ refuses (MacFails 32 [] []) ∷ [])
unfolding computing
window = refl

-- an RRC text that nobody sent, with the right MAC: a coincidence, which ends the run for good
abbrev forged : Event
forged = Event.Inject (Address.StationAir 0 1 Srb1) (1 ∷ 0x05 ∷ 0x61 ∷ 1 ∷ 0 ∷ 7 ∷ 7 ∷ [])

forged_record : drop 8 (told (opening ++ forged ∷ packet ∷ [])) ≡ (None ∷ None ∷ [])
unfolding computing
forged_record = refl
