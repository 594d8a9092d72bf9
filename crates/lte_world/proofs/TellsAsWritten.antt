-- A system that goes on tells of one event what the written machine's run tells, in values.
use Rattle.std.proofs.Common.{◌≡◌, refl, sym, ap, ◌∙◌, ℕ, List, [], ◌∷◌, ◌++◌, map, Option, Some, None, Ok}
use Rattle.std.proofs.lemmas.List.{map-append}
use Rattle.std.specs.List.{AllByRecursion as AllOf}
use Rattle.key_terms.specs.declared.proof.Proof.{Proof}
use Rattle.lte_events.specs.{Ranges.IsEvent, Ranges.IsSetup, declared.events.Event.Event, declared.lines.Line.Line, declared.setups.Setup.Setup}
use Rattle.lte_machine.specs.BothRuns.{annex_b_terms, written_run, written_report, octet_run, octet_report}
use Rattle.lte_machine.specs.{Carried.report_value, Ciphers.annex_b, Opening.open_octets}
use Rattle.lte_machine.specs.Machines.{Kept, machine_in_octets, written_machine}
use Rattle.lte_machine.specs.Run.{RunState, Running, Stopped, after, event_report, first_world, reported, turn, GoesOn}
use Rattle.lte_machine.specs.Step.{StepResult, Continues, Stops, next}
use Rattle.lte_machine.proofs.{AnnexB.annex_b_ciphers, EventByEvent.tale_snoc, KnownLists.all_append, WholeRun.tale_is_value}
use Rattle.lte_world.specs.Whole.{Whole, answer_of, run_of, told_of, turned, unless_over}

-- THE LAST OF A LIST

last_of : {A : Type 0} → A → List A → A
last_of d [] = d
last_of d (x ∷ xs) = last_of x xs

last_more : {A : Type 0} (d : A) (xs : List A) (x : A) → last_of d (xs ++ x ∷ []) ≡ x
unfolding last_of
last_more d [] x = refl
last_more d (y ∷ ys) x = last_more y ys x

last_same : {A : Type 0} (xs ys : List A) (x y : A) → xs ++ x ∷ [] ≡ ys ++ y ∷ [] → x ≡ y
last_same xs ys x y e = sym (last_more x xs x) ∙ ap (last_of x) e ∙ last_more x ys y

-- BOTH MACHINES TELL THE SAME

module _ (setup : Setup) (set : IsSetup setup) (heard : List Event) (are : AllOf IsEvent heard) where
  pub told_same : (e : Event) → IsEvent e → event_report (open_octets annex_b) (machine_in_octets annex_b) (octet_run setup heard) e
      ≡ report_value (event_report (open_octets annex_b_terms) (written_machine annex_b) (written_run setup heard) e)
  told_same e is =
      let all = all_append IsEvent heard (e ∷ []) are (is, tt) in
      let whole = tale_is_value annex_b annex_b_ciphers setup set (heard ++ e ∷ []) all in
      last_same (octet_report setup heard) (map report_value (written_report setup heard))
      (event_report (open_octets annex_b) (machine_in_octets annex_b) (octet_run setup heard) e)
      (report_value (event_report (open_octets annex_b_terms) (written_machine annex_b) (written_run setup heard) e))
      (sym (tale_snoc (open_octets annex_b) (machine_in_octets annex_b) (Running (first_world setup)) heard e) ∙ whole
      ∙ ap (map report_value) (tale_snoc (open_octets annex_b_terms) (written_machine annex_b) (Running (first_world setup)) heard e)
      ∙ map-append report_value (written_report setup heard)
      (event_report (open_octets annex_b_terms) (written_machine annex_b) (written_run setup heard) e ∷ []))

-- A SYSTEM THAT GOES ON

none_over : (o : Option Proof) (run : RunState (List ℕ) ℕ Kept) → GoesOn (unless_over o run) → o ≡ None
none_over None run goes = refl
none_over (Some proof) run goes = absurd goes

-- it met no coincidence
pub not_over : (v : Whole) → GoesOn (run_of v) → v.over ≡ None
not_over v goes = none_over v.over (octet_run v.setup v.journal) goes

same_over : (o : Option Proof) (run : RunState (List ℕ) ℕ Kept) → GoesOn (unless_over o run) → unless_over o run ≡ run
same_over None run goes = refl
same_over (Some proof) run goes = absurd goes

-- its run is that of its setup and its journal
pub runs_octets : (v : Whole) → GoesOn (run_of v) → run_of v ≡ octet_run v.setup v.journal
runs_octets v goes = same_over v.over (octet_run v.setup v.journal) goes

-- it tells what the written machine's run tells
pub tells_as_written : (v : Whole)
    → GoesOn (run_of v)
    → IsSetup v.setup
    → AllOf IsEvent v.journal
    → (e : Event)
    → IsEvent e
    → told_of v e ≡ answer_of (report_value (event_report (open_octets annex_b_terms) (written_machine annex_b) (written_run v.setup v.journal) e))
tells_as_written v goes set are e is =
    ap (λ run. answer_of (event_report (open_octets annex_b) (machine_in_octets annex_b) run e)) (runs_octets v goes)
    ∙ ap answer_of (told_same v.setup set v.journal are e is)

line_goes : (s : StepResult (List ℕ) ℕ Kept) (line : Line) → answer_of (reported s) ≡ Ok line → GoesOn (after s)
line_goes (Continues w told) line e = tt
line_goes (Stops coincidence) line e = cc

tells_line : (run : RunState (List ℕ) ℕ Kept) (e : Event) (line : Line)
    → answer_of (event_report (open_octets annex_b) (machine_in_octets annex_b) run e) ≡ Ok line
    → GoesOn run × GoesOn (turn (open_octets annex_b) (machine_in_octets annex_b) run e)
tells_line (Running w) e line told = (tt, line_goes (next (open_octets annex_b) (machine_in_octets annex_b) w e) line told)
tells_line (Stopped coincidence) e line told = cc

-- where it tells a line it went on before, and goes on
pub with_line : (v : Whole) (e : Event) (line : Line) → told_of v e ≡ Ok line → GoesOn (run_of v) × GoesOn (turned v e)
with_line v e line told = tells_line (run_of v) e line told
