-- One event: what is written of it, and whom it tells.
use Rattle.std.proofs.Common.{◌≡◌, ℕ, zero, suc, ◌<◌, Option, List, [], ◌∷◌, ◌++◌, length, get_or, All, Ok, Err, refl, sym, subst, append-nil, arith}
use Rattle.std.specs.List.{AllByRecursion as AllOf}
use Rattle.edge_io.specs.{Octets.Grows, Peers.PeersTold, Told.Told}
use Rattle.lte_events.specs.{declared.events.Event.Event, declared.inputs.ActorIn.ActorIn, declared.replies.ActorOut.ActorOut, declared.setups.Setup.Setup}
use Rattle.lte_events.specs.declared.inputs.ActorIn.TheVariants as input
use Rattle.lte_machine.specs.{BothRuns.octet_run, Machines.Kept}
use Rattle.lte_machine.specs.Run.{RunState, Running, Stopped, EventReport, Reported, Coincided, GoesOn}
use Rattle.lte_world.specs.{Replies.RepliedLast, Replies.IsOfSetup, Whole.Whole, Whole.run_of}
use Rattle.lte_world.proofs.TellsAsWritten.{runs_octets}
use Rattle.run_report.specs.{declared.unwritten.Unwritten.Unwritten, declared.endings.Ending.Ending, Takes.Takes, Written.Written}
use Rattle.run_report.specs.declared.unwritten.Unwritten.TheVariants as unwritten
use Rattle.run_report.specs.declared.endings.Ending.TheVariants.{Done, Chance}
use Rattle.run_report.specs.Events.{told_of, event_text, event_ends}
use Rattle.run_report.proofs.ReportByEvent.{still_goes}
use Rattle.hub_drive.proofs.Composing.{cut_after, cut_at, cut_before, did_none, done_twice}
use Rattle.hub_drive.specs.{declared.faults.DriveFault.DriveFault, Acts.Writing, Driven.PlanWent, Exchanges.replied, Exchanges.HasActor, Went.CutAt, Went.fault_of, Plan.event_plan, Plan.replies_at}
use Rattle.hub_drive.specs.declared.faults.DriveFault.TheVariants.{Memory, WriteFault}
use Rattle.hub_drive.specs.Outside.{Outside, outside, AllDone}

-- a system to which an event happened that is no coincidence
pub goes_after : (v after : Whole) (e : Event) → event_ends (told_of (run_of v) e) ≡ Done → Takes v e after → GoesOn (run_of after)
goes_after v after e plain takes = subst (λ r. GoesOn r) (sym takes.run) (still_goes (run_of v) e plain)

-- the replies to the event are those of the local actors
reply_in : (setup : Setup) (journal : List Event) (e : Event) (replies : List (ActorIn × ActorOut))
    (run : RunState (List ℕ) ℕ Kept)
    → GoesOn run
    → octet_run setup journal ≡ run
    → RepliedLast setup (journal ++ e ∷ []) replies
    → replies ≡ replies_at run e
reply_in setup journal e replies (Running w) goes is last = last.last journal e w refl is
reply_in setup journal e replies (Stopped coincidence) goes is last = absurd goes

pub replies_are : (v after : Whole) (e : Event) (replies : List (ActorIn × ActorOut))
    → GoesOn (run_of v)
    → after.setup ≡ v.setup
    → after.journal ≡ v.journal ++ e ∷ []
    → RepliedLast after.setup after.journal replies
    → replies ≡ replies_at (run_of v) e
replies_are v after e replies goes setup journal last =
    let P : Setup → Type 0 = λ s. RepliedLast s after.journal replies in
    let Q : List Event → Type 0 = λ j. RepliedLast v.setup j replies in
    reply_in v.setup v.journal e replies (run_of v) goes (sym (runs_octets v goes)) (subst Q journal (subst P setup last))

-- each goes to an actor of the setup
actor_of : (setup : Setup) (i : ActorIn) → IsOfSetup setup i → HasActor setup i
actor_of setup (input.Phone i) is = tt
actor_of setup (input.Station id i) is = is
actor_of setup (input.Core i) is = tt

has_at : (setup : Setup) (replies : List (ActorIn × ActorOut))
    → AllOf (λ r. IsOfSetup setup r.0) replies
    → (i : ℕ) (d : ActorIn × ActorOut)
    → i < length replies
    → HasActor setup (get_or replies i d).0
has_at setup [] all i d below = absurd (omega (arith, below))
has_at setup (r ∷ replies) all zero d below = actor_of setup r.0 all.0
has_at setup (r ∷ replies) all (suc i) d below = has_at setup replies all.1 i d (omega (arith, below))

pub all_have : (setup : Setup) (replies : List (ActorIn × ActorOut)) → AllOf (λ r. IsOfSetup setup r.0) replies → All (λ r. HasActor setup r.0) replies
all_have setup replies all = λ i d below. has_at setup replies all i d below

-- WRITING

-- a text that was not written to its end
writing_cut : (A : Type 0) (fault : Unwritten) (text : List ℕ) (first now : Told) (peers : Option PeersTold)
    → Written {A = A} text (Err fault) first now
    → CutAt (Writing text ∷ []) (fault_of fault) (outside first.written peers) (outside now.written peers)
writing_cut A unwritten.Memory text first now peers written =
    cut_at (Writing text) Memory (outside first.written peers) (outside now.written peers) (written, refl)
writing_cut A unwritten.WriteFault text first now peers written =
    cut_at (Writing text) WriteFault (outside first.written peers) (outside now.written peers) (written.1, refl)

-- a text that was written
pub writing_done : (text : List ℕ) (first now : Told) (peers : Option PeersTold)
    → Grows first.written now.written text
    → AllDone (Writing text ∷ []) (outside first.written peers) (outside now.written peers)
writing_done text first now peers grown =
    let P : List ℕ → Type 0 = λ octets. Grows first.written now.written octets in
    record { written = subst P (sym (append-nil text)) grown; did = did_none peers }

-- its line was written, and then the peers were told
pub event_told : (setup : Setup) (step : ℕ) (told : EventReport (List ℕ)) (replies : List (ActorIn × ActorOut))
    (first mid : Told) (peers peers' : Option PeersTold)
    → event_ends told ≡ Done
    → Grows first.written mid.written (event_text step told)
    → AllDone (replied setup step replies) (outside mid.written peers) (outside mid.written peers')
    → PlanWent (event_plan setup step told replies) (Ok Done) (outside first.written peers) (outside mid.written peers')
event_told setup step (Reported line) replies first mid peers peers' plain grown did =
    let text : List ℕ = event_text step (Reported line) in (
      done_twice (Writing text ∷ []) (replied setup step replies) (outside first.written peers) (outside mid.written peers)
          (outside mid.written peers') (writing_done text first mid peers grown) did,
      refl,
    )
event_told setup step (Coincided coincidence) replies first mid peers peers' plain grown did = absurd cc

-- its line was written, and the peers were not told to the end
pub event_untold : (setup : Setup) (step : ℕ) (told : EventReport (List ℕ)) (replies : List (ActorIn × ActorOut))
    (fault : DriveFault) (first mid : Told) (peers peers' : Option PeersTold)
    → event_ends told ≡ Done
    → Grows first.written mid.written (event_text step told)
    → CutAt (replied setup step replies) fault (outside mid.written peers) (outside mid.written peers')
    → PlanWent (event_plan setup step told replies) (Err fault) (outside first.written peers) (outside mid.written peers')
event_untold setup step (Reported line) replies fault first mid peers peers' plain grown cut =
    let text : List ℕ = event_text step (Reported line) in
    cut_after (Writing text ∷ []) (replied setup step replies) fault (outside first.written peers) (outside mid.written peers)
    (outside mid.written peers') (writing_done text first mid peers grown) cut
event_untold setup step (Coincided coincidence) replies fault first mid peers peers' plain grown cut = absurd cc

-- a coincidence was written
pub event_coincides : (setup : Setup) (step : ℕ) (told : EventReport (List ℕ)) (replies : List (ActorIn × ActorOut))
    (first now : Told) (peers : Option PeersTold)
    → event_ends told ≡ Chance
    → Grows first.written now.written (event_text step told)
    → PlanWent (event_plan setup step told replies) (Ok Chance) (outside first.written peers) (outside now.written peers)
event_coincides setup step (Reported line) replies first now peers is grown = absurd cc
event_coincides setup step (Coincided coincidence) replies first now peers is grown =
    (writing_done (event_text step (Coincided coincidence)) first now peers grown, refl)

-- what is told was not written to its end
event_cut : (setup : Setup) (step : ℕ) (told : EventReport (List ℕ)) (replies : List (ActorIn × ActorOut))
    (out : DriveFault) (x y : Outside)
    → CutAt (Writing (event_text step told) ∷ []) out x y
    → CutAt (event_plan setup step told replies).acts out x y
event_cut setup step (Reported line) replies out x y cut = cut_before (Writing (event_text step (Reported line)) ∷ []) (replied setup step replies) out x y cut
event_cut setup step (Coincided coincidence) replies out x y cut = cut

pub event_unwritten : (setup : Setup) (step : ℕ) (told : EventReport (List ℕ)) (replies : List (ActorIn × ActorOut))
    (fault : Unwritten) (first now : Told) (peers : Option PeersTold)
    → Written {A = Ending} (event_text step told) (Err fault) first now
    → PlanWent (event_plan setup step told replies) (Err (fault_of fault)) (outside first.written peers) (outside now.written peers)
event_unwritten setup step told replies fault first now peers written =
    event_cut setup step told replies (fault_of fault) (outside first.written peers) (outside now.written peers)
    (writing_cut Ending fault (event_text step told) first now peers written)

-- an event whose plan no coincidence ends
pub plain_of : (setup : Setup) (step : ℕ) (told : EventReport (List ℕ)) (replies : List (ActorIn × ActorOut))
    → (event_plan setup step told replies).ends ≡ Done
    → event_ends told ≡ Done
plain_of setup step (Reported line) replies is = refl
plain_of setup step (Coincided coincidence) replies is = absurd cc
