-- The record on S1 that comes to a core is the one that its input says.
use Rattle.std.proofs.Common.{◌≡◌, refl, sym, ap, ◌∙◌, ℕ, List, [], ◌∷◌, ◌++◌, Option, Some, None}
use Rattle.lte_events.specs.{declared.addresses.Address.Address, declared.events.Event.Event, declared.inputs.ActorIn.ActorIn, declared.inputs.StationIn.StationIn, declared.lines.Line.Line, declared.replies.ActorOut.ActorOut}
use Rattle.lte_machine.specs.{BothRuns.octet_run, Machines.Kept, StationState.Station}
use Rattle.lte_machine.specs.Run.{RunState, Running, Stopped, GoesOn}
use Rattle.lte_machine.specs.World.{World, record_at, station_of_id}
use Rattle.lte_world.specs.Replies.{RepliedLast, delivered_replies, input_at, replies_in, replies_of, station_replies}
use Rattle.lte_world.specs.Whole.{Whole, run_of}
use Rattle.core_relocation.specs.{declared.cores.Cores.Cores, Run.fields_of_run}
use Rattle.core_relocation.specs.Holder.{fields_at, fields_in, fields_to, fields_given, held_after, if_done, moved}
use Rattle.lte_world.proofs.TellsAsWritten.{runs_octets}

at_station : (id : ℕ) (i : StationIn) (o : Option (Station (List ℕ) ℕ)) → fields_given (station_replies id i o) ≡ None
at_station id i None = refl
at_station id i (Some s) = refl

at_address : (w : World (List ℕ) ℕ Kept) (to : Address) (octets : List ℕ) → fields_given (replies_in w (input_at to octets)) ≡ fields_to to octets
at_address w Address.PhoneNas octets = refl
at_address w (Address.Phone station air bearer) octets = refl
at_address w Address.CoreNas octets = refl
at_address w Address.CoreS1 octets = refl
at_address w (Address.StationAir station air bearer) octets = at_station station (StationIn.Air air bearer octets) (station_of_id station w.stations)
at_address w (Address.StationS1 station) octets = at_station station (StationIn.S1 octets) (station_of_id station w.stations)
at_address w (Address.StationX2 station) octets = at_station station (StationIn.X2 octets) (station_of_id station w.stations)

delivered : (w : World (List ℕ) ℕ Kept) (o : Option Kept) → fields_given (delivered_replies w o) ≡ fields_at o
delivered w None = refl
delivered w (Some x) = at_address w x.to x.octets

-- so the context moves as it would by the record that was delivered
moves : (c : Cores) (core : ℕ) (w : World (List ℕ) ℕ Kept) (e : Event) → moved c core e (fields_given (replies_of w e)) ≡ moved c core e (fields_in w e)
unfolding replies_of
moves c core w (Event.Deliver i) = ap (moved c core (Event.Deliver i)) (delivered w (record_at i w.sent))
moves c core w (Event.Core act) = refl
moves c core w (Event.Auth ksi kasme caps) = refl
moves c core w (Event.Phone act) = refl
moves c core w (Event.Station id act) = refl
moves c core w (Event.Inject to octets) = refl

held_by : (c : Cores) (core : ℕ) (e : Event) (replies : List (ActorIn × ActorOut)) (line : Line)
    (run : RunState (List ℕ) ℕ Kept)
    → GoesOn run
    → ((w : World (List ℕ) ℕ Kept) → run ≡ Running w → replies ≡ replies_of w e)
    → held_after c core e (fields_given replies) line ≡ held_after c core e (fields_of_run run e) line
held_by c core e replies line (Running w) goes are =
    ap (λ rs. held_after c core e (fields_given rs) line) (are w refl) ∙ ap (λ h. if_done line.answer h c.held) (moves c core w e)
held_by c core e replies line (Stopped coincidence) goes are = absurd goes

-- by the replies that a system keeps after this event
pub held_told : (c : Cores) (core : ℕ) (v w : Whole) (e : Event) (replies : List (ActorIn × ActorOut)) (line : Line)
    → GoesOn (run_of v)
    → w.setup ≡ v.setup
    → w.journal ≡ v.journal ++ e ∷ []
    → RepliedLast w.setup w.journal replies
    → held_after c core e (fields_given replies) line ≡ held_after c core e (fields_of_run (run_of v) e) line
held_told c core v w e replies line goes set longer last =
    held_by c core e replies line (run_of v) goes (λ u is. last.last v.journal e u longer (ap (λ s. octet_run s v.journal) set ∙ sym (runs_octets v goes) ∙ is))
