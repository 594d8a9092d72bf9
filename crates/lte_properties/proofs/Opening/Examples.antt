-- Worked runs in which packets come to a receiver that is ready, in its window: their last COUNTs.
use Rattle.std.proofs.Common.{ℕ, refl, List, [], ◌∷◌, ◌++◌, Some, None, negsuc, arith}
use Rattle.rec_base.specs.declared.bearers.Bearer.TheVariants.{Srb2, Drb1}
use Rattle.lte_events.specs.{declared.acts.PhoneAct.PhoneAct, declared.events.Event.Event}
use Rattle.key_model.specs.Term.{Term}
use Rattle.lte_machine.specs.{Wire.Outgoing, Opening.open_octets, World.World, World.record_at}
use Rattle.lte_machine.specs.Run.{RunState, Running, Stopped, replay}
use Rattle.lte_machine.proofs.Scenario.{computing, machine, opening, start, toy}
use Rattle.lte_properties.specs.Packets.{IsReady, InWindow, next_for, count_of, window_of}
use Rattle.lte_properties.proofs.ChainNumbers.Lists.{OfSome}

abbrev Comes : World Term ℕ (Outgoing Term ℕ) → Outgoing Term ℕ → Type 0
Comes w x = IsReady w x × InWindow (next_for w x) (count_of x) (window_of x)

-- the newest record after these events comes so
abbrev NewestComes : RunState Term ℕ (Outgoing Term ℕ) → Type 0
NewestComes (Running w) = OfSome (Comes w) (record_at (negsuc 0) w.sent)
NewestComes (Stopped coincidence) = ⊥

abbrev Ready : List Event → Type 0
Ready events = NewestComes (replay (open_octets toy) machine start (opening ++ events))

-- user data after 4,095 COUNTs that were left out, and RRC data after 31
user_data : Ready (Event.Phone (PhoneAct.Skip (Some Drb1) 4095) ∷ Event.Phone (PhoneAct.SendUser Drb1 (0x68 ∷ [])) ∷ [])
unfolding computing
user_data = ((refl, refl), (omega arith, omega arith))

rrc_data : Ready (Event.Phone (PhoneAct.Skip (Some Srb2) 31) ∷ Event.Phone (PhoneAct.SendRrc Srb2 (0x61 ∷ [])) ∷ [])
unfolding computing
rrc_data = ((refl, refl), (omega arith, omega arith))

-- NAS data after 255
nas_data : Ready (Event.Phone (PhoneAct.Skip None 255) ∷ Event.Phone (PhoneAct.SendNas (0x61 ∷ [])) ∷ [])
unfolding computing
nas_data = (refl, (omega arith, omega arith))
