-- What a system tells of one event more is what the written machine's run tells.
use Rattle.std.proofs.Common.{◌≡◌, refl, sym, ap, subst, ◌∙◌, ℕ, true, List, Option, Some, None, Result, Ok, Err, OnOk}
use Rattle.std.specs.List.{AllByRecursion as AllOf}
use Rattle.lte_events.specs.{Ranges.IsEvent, Ranges.IsSetup, declared.events.Event.Event, declared.lines.Line.Line, declared.lines.Who.Who}
use Rattle.key_terms.specs.declared.proof.Proof.{Proof}
use Rattle.lte_machine.specs.{BothRuns.octet_run, Machines.Kept}
use Rattle.lte_machine.specs.Run.{RunState, Running, Stopped, GoesOn}
use Rattle.lte_world.specs.Whole.{Whole, InRun, address_of, run_of, told_of, turned, unless_over}
use Rattle.lte_world.specs.declared.faults.WorldFault.{WorldFault}
use Rattle.lte_world.proofs.TellsAsWritten.{tells_as_written, with_line}
use Rattle.item_runs.specs.Course.{place_in, place_of, told_written}

-- with room for one event more
pub told_here : (v reserved : Whole) (e : Event)
    → reserved ≡ record v { ready = true }
    → GoesOn (run_of v)
    → IsSetup v.setup
    → AllOf IsEvent v.journal
    → IsEvent e
    → told_of reserved e ≡ told_written v.setup v.journal e
unfolding told_written
told_here v reserved e same goes set are is = ap (λ (u : Whole). told_of u e) same ∙ tells_as_written v goes set are e is

-- and with a line it goes on
pub still_goes : (r : Result Line WorldFault) (v w : Whole) (e : Event) → r ≡ told_of v e → run_of w ≡ turned v e → OnOk r (GoesOn (run_of w))
still_goes (Ok line) v w e told runs = subst GoesOn (sym runs) (with_line v e line (sym told)).1
still_goes (Err fault) v w e told runs = tt

-- the address of who acted, where it goes on
pub placed_here : (v : Whole) (who : Who) (r : Option (ℕ × ℕ))
    → GoesOn (run_of v)
    → InRun (λ w. r ≡ address_of w who) (run_of v)
    → r ≡ place_of v.setup v.journal who
unfolding place_of
placed_here v who r goes is = by v.over refl goes is
  where
    by_run : (run : RunState (List ℕ) ℕ Kept) → GoesOn run → InRun (λ w. r ≡ address_of w who) run → r ≡ place_in run who
    by_run (Running w) g h = h
    by_run (Stopped coincidence) g h = absurd g

    by : (o : Option Proof) → v.over ≡ o → GoesOn (unless_over o (octet_run v.setup v.journal))
        → InRun (λ w. r ≡ address_of w who) (unless_over o (octet_run v.setup v.journal)) → r ≡ place_in (octet_run v.setup v.journal) who
    by None e g h = by_run (octet_run v.setup v.journal) g h
    by (Some proof) e g h = absurd g
