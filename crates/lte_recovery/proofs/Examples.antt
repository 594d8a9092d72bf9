-- Recovery on worked runs: the keys differ, and the seven events heal it.
use Rattle.std.proofs.Common.{◌≡◌, refl, ℕ, Bool, true, false, List, ◌++◌, Option, Some, None}
use Rattle.std.specs.Prelude.{◌==◌, ◌&&◌, replicate, take}
use Rattle.key_model.specs.Term.{Term, same_term}
use Rattle.lte_events.specs.declared.events.Event.{Event}
use Rattle.lte_machine.specs.{Opening.open_octets, StationState.Station, StationState.Context, Wire.Outgoing, World.station_of_id}
use Rattle.lte_machine.specs.PhoneState.{Link, Radio, Connected}
use Rattle.lte_machine.specs.Run.{RunState, Running, Stopped, replay}
use Rattle.lte_machine.proofs.{LateAnswers.eight_ahead, KeyChanges.changed_twice}
use Rattle.lte_machine.proofs.Scenario.{computing, machine, place, setup, start, toy, x2_to}
use Rattle.lte_recovery.specs.{Reconnection.TheWorld, Reconnection.reconnect, Renewal.renew}

abbrev in_context : Link Term ℕ → Option (Context Term ℕ) → Bool
in_context l None = false
in_context l (Some c) = (c.air == l.air) && same_term c.key.kenb l.kenb

abbrev shares_with : Link Term ℕ → Option (Station Term ℕ) → Bool
shares_with l None = false
shares_with l (Some s) = in_context l s.context

abbrev shares_by : TheWorld → Radio Term ℕ → Bool
shares_by w (Connected l) = shares_with l (station_of_id l.station w.stations)
shares_by w other = false

abbrev shares : RunState Term ℕ (Outgoing Term ℕ) → Bool
shares (Running w) = shares_by w w.phone.radio
shares (Stopped coincidence) = false

abbrev pub to : List Event → RunState Term ℕ (Outgoing Term ℕ)
to events = replay (open_octets toy) machine start events

parted : shares (to eight_ahead) ≡ false
unfolding computing
parted = refl

healed : shares (to (eight_ahead ++ reconnect (place 0))) ≡ true
unfolding computing
healed = refl

-- and the next handover over X2 agrees
next_handover : shares (to (eight_ahead ++ reconnect (place 0) ++ x2_to 0 1)) ≡ true
unfolding computing
next_handover = refl

-- a key change made from another authentication parted them. The phone's NAS context is newer than the core's: a reconnection is not enough,
-- and a new authentication is
parted_by_change : shares (to changed_twice) ≡ false
unfolding computing
parted_by_change = refl

not_enough : shares (to (changed_twice ++ reconnect (place 0))) ≡ false
unfolding computing
not_enough = refl

healed_anew : shares (to (changed_twice ++ renew 3 (replicate 32 9) setup.caps ++ reconnect (place 0))) ≡ true
unfolding computing
healed_anew = refl

-- six of the seven events are not enough
six_events : shares (to (eight_ahead ++ take 6 (reconnect (place 0)))) ≡ true
unfolding computing
six_events = refl

five_events : shares (to (eight_ahead ++ take 5 (reconnect (place 0)))) ≡ false
unfolding computing
five_events = refl
