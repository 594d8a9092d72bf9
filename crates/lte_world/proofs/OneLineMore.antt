-- A line that a world answers: its step, its place among the answers, and what the headline says of it.
use Rattle.std.proofs.Common.{◌≡◌, refl, sym, ap, subst, ◌∙◌, ℕ, Bool, List, [], ◌∷◌, ◌++◌, length, map, Option, Some, Result, Ok}
use Rattle.std.specs.{Prelude.slice_get, List.AllByRecursion as AllOf}
use Rattle.lte_events.specs.{Ranges.IsEvent, Ranges.IsSetup, declared.events.Event.Event, declared.lines.Line.Line, declared.setups.Setup.Setup}
use Rattle.lte_machine.specs.{BothRuns.octet_run, BothRuns.octet_report, Calls.line_out, Ciphers.annex_b, Machines.Kept, Opening.open_octets, World.World, World.happens}
use Rattle.lte_machine.specs.Run.{RunState, Running, Stopped, event_report, reported}
use Rattle.lte_machine.specs.Step.{StepResult, Continues, Stops, next}
use Rattle.lte_machine.specs.World as world
use Rattle.lte_machine.proofs.{EventByEvent.step_is, Routing.happens_each}
use Rattle.lte_properties.specs.InOctets.{FarNeverThere}
use Rattle.lte_properties.proofs.FarNever.{far_never}
use Rattle.lte_world.specs.{declared.faults.WorldFault.WorldFault, Systems.octets, Systems.Actors}
use Rattle.lte_world.specs.InOctets.{answers_of, CommandsShare, PacketsOpen}
use Rattle.key_terms.specs.declared.proof.Proof.{Proof}
use Rattle.lte_world.specs.Whole.{Whole, unless_over, answer_of, told_of, Goes, Stands}
use Rattle.lte_world.proofs.Answered.{answers_more, last_answer, commands_share, packets_open}
use Rattle.lte_world.proofs.{Applying.events_more, Standing.AtEvent}

-- the step of a line is the number of events before it
module _ (w : World (List ℕ) ℕ Kept) where
  abbrev AtStep : World (List ℕ) ℕ Kept × world.Line (List ℕ) → Type 0
  AtStep h = h.1.step ≡ w.events

  happens_at : (e : Event) → AtStep (happens octets w e)
  happens_at = happens_each octets w (λ done a. AtStep done) (λ ksi key caps. refl) (λ input came turn. refl)
      (λ input came. refl) (λ id input came s there own. refl) (λ answer. refl)

  next_at : (e : Event) (u : World (List ℕ) ℕ Kept) (l : world.Line (List ℕ)) → next (open_octets annex_b) octets w e ≡ Continues u l → l.step ≡ w.events
  next_at e u l is = ap (λ (x : world.Line (List ℕ)). x.step) (step_is (open_octets annex_b) octets w e u l is).1 ∙ happens_at e

step_of : (r : RunState (List ℕ) ℕ Kept) (a : Actors) (n : ℕ) (e : Event) (line : Line)
    → Goes r a n
    → ◌≡◌ {A = Result Line WorldFault} (Ok line) (answer_of (event_report (open_octets annex_b) octets r e))
    → line.step ≡ n
step_of (Stopped coincidence) a n e line g says = absurd g
step_of (Running w) a n e line g says = by (next (open_octets annex_b) octets w e) refl says
  where
    by : (x : StepResult (List ℕ) ℕ Kept)
        → next (open_octets annex_b) octets w e ≡ x
        → ◌≡◌ {A = Result Line WorldFault} (Ok line) (answer_of (reported x))
        → line.step ≡ n
    by (Continues u l) is told =
        let same : line ≡ line_out l = cc in ap (λ (x : Line). x.step) same ∙ next_at w e u l is ∙ g.1
    by (Stops coincidence) is told = absurd cc

module _ (setup : Setup) (journal : List Event) (a : Actors) (set : IsSetup setup) (are : AllOf IsEvent journal)
    (goes : Goes (octet_run setup journal) a (length journal)) (e : Event) (good : IsEvent e)
    (line : Line) (says : ◌≡◌ {A = Result Line WorldFault} (Ok line) (answer_of (event_report (open_octets annex_b) octets (octet_run setup journal) e))) where
  pub step_line : line.step ≡ length journal
  step_line = step_of (octet_run setup journal) a (length journal) e line goes says

  abbrev answers : Setup → List Event → List (Result Line WorldFault)
  answers s es = map answer_of (octet_report s es)

  -- the world before the event and after it
  module _ (before after : Whole) (was : before.setup ≡ setup) (had : before.journal ≡ journal)
      (is : after.setup ≡ setup) (has : after.journal ≡ journal ++ e ∷ []) where
    pub answers_line : answers_of after ≡ answers_of before ++ Ok line ∷ []
    answers_line =
        (λ j. answers (is j) (has j)) ∙ answers_more setup journal e
        ∙ (λ j. answers (sym was j) (sym had j) ++ sym says j ∷ [])

    there : slice_get (answers_of after) (length before.journal) ≡ Some (Ok line)
    there = (λ j. slice_get (answers (is j) (has j)) (length (had j))) ∙ last_answer setup journal e ∙ ap (λ r. Some r) (sym says)

    in_range : IsSetup after.setup × AllOf IsEvent after.journal
    in_range = (subst IsSetup (sym is) set, subst (AllOf IsEvent) (sym has) (events_more journal e are good))

    pub commands_line : CommandsShare after (length before.journal) line
    commands_line = commands_share after in_range.0 in_range.1 (length before.journal) line there

    pub packets_line : PacketsOpen after (length before.journal) line
    packets_line = packets_open after in_range.0 in_range.1 (length before.journal) line there

    pub never_line : FarNeverThere after.setup after.journal
    never_line = far_never after.setup after.journal in_range.0 in_range.1

-- ONE EVENT OF A WORLD

module _ {setup : Setup} {journal : List Event} {over : Option Proof} {ready : Bool} {a : Actors} {v : Whole} {e : Event}
    (t : AtEvent setup journal over ready a v e) {line : Line} (says : ◌≡◌ {A = Result Line WorldFault} (Ok line) (told_of v e)) where
  goes : Goes (octet_run v.setup v.journal) a (length v.journal)
  goes =
      subst (λ (x : Whole). Goes (octet_run x.setup x.journal) a (length x.journal)) t.view
      (subst (λ o. Stands o (octet_run setup journal) a (length journal)) t.none t.stands)

  says_so : ◌≡◌ {A = Result Line WorldFault} (Ok line) (answer_of (event_report (open_octets annex_b) octets (octet_run v.setup v.journal) e))
  says_so =
      says
      ∙ ap (λ o. answer_of (event_report (open_octets annex_b) octets (unless_over o (octet_run v.setup v.journal)) e)) (sym (ap (λ x. x.over) t.view) ∙ t.none)

  set_so : IsSetup v.setup
  set_so = subst (λ (x : Whole). IsSetup x.setup) t.view t.set

  are_so : AllOf IsEvent v.journal
  are_so = subst (λ (x : Whole). AllOf IsEvent x.journal) t.view t.are

  good : IsEvent e
  good = t.can.can.0

  pub line_step : line.step ≡ length v.journal
  line_step = step_line v.setup v.journal a set_so are_so goes e good line says_so

  module _ {items : List Event} (longer : items ≡ journal ++ e ∷ []) (later : Bool) where
    abbrev after : Whole
    after = record { setup = setup; journal = items; over = over; ready = later }

    is : setup ≡ v.setup
    is = ap (λ x. x.setup) t.view

    grown : items ≡ v.journal ++ e ∷ []
    grown = longer ∙ (λ j. (t.view j).journal ++ e ∷ [])

    pub line_answers : answers_of after ≡ answers_of v ++ Ok line ∷ []
    line_answers = answers_line v.setup v.journal a set_so are_so goes e good line says_so v after refl refl is grown

    pub line_commands : CommandsShare after (length v.journal) line
    line_commands = commands_line v.setup v.journal a set_so are_so goes e good line says_so v after refl refl is grown

    pub line_packets : PacketsOpen after (length v.journal) line
    line_packets = packets_line v.setup v.journal a set_so are_so goes e good line says_so v after refl refl is grown

    pub line_never : FarNeverThere after.setup after.journal
    line_never = never_line v.setup v.journal a set_so are_so goes e good line says_so v after refl refl is grown
