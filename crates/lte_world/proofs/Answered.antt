-- What a world answers is what its run tells.
use Rattle.std.proofs.Common.{◌≡◌, sym, ap, ◌∙◌, ℕ, ◌≤◌, ◌<◌, arith, List, [], ◌∷◌, ◌++◌, length, map, Option, Some, Result, Ok, option_map}
use Rattle.std.proofs.lemmas.List.{map-append, length-map}
use Rattle.std.specs.{Prelude.slice_get, List.AllByRecursion as AllOf}
use Rattle.lte_events.specs.{Ranges.IsEvent, Ranges.IsSetup, declared.events.Event.Event, declared.lines.Line.Line, declared.setups.Setup.Setup}
use Rattle.key_terms.proofs.Places.{slice_get_at_end}
use Rattle.key_model.specs.{Term.Term, Value.value_of}
use Rattle.lte_machine.specs.BothRuns.{written_report, octet_run, octet_report}
use Rattle.lte_machine.specs.{ByEvent.IsStep, Calls.line_out, Calls.note_out, Carried.map_line, Carried.report_value, Ciphers.annex_b, Opening.open_octets, Wire.Outgoing, World.World}
use Rattle.lte_machine.specs.Reply.{Note, Made, Came, Secured, Commanded, Changed, Took, map_note}
use Rattle.lte_machine.specs.Run.{Running, first_world, Reported, event_report}
use Rattle.lte_machine.specs.World as world
use Rattle.lte_machine.proofs.{AnnexB.annex_b_ciphers, WholeRun.tale_is_value}
use Rattle.lte_machine.proofs.EventByEvent.{tale_snoc, told_each, step_told}
use Rattle.lte_properties.specs.{Agreement.ahead, Agreement.ObeysMade, BySteps.Follows, Headline.Headline, InOctets.TellsText}
use Rattle.lte_properties.proofs.{HeadlineHolds.headline, StepByStep.takes_tell, StepByStep.makes_tell, OctetLaws.got_map}
use Rattle.lte_world.specs.{declared.faults.WorldFault.WorldFault, Systems.octets, Whole.Whole, Whole.answer_of}
use Rattle.lte_world.specs.InOctets.{answers_of, key_told, CommandsShare, PacketsOpen}
use Rattle.lte_world.proofs.OneTerm.{one_term}

-- LISTS

same_some : {A : Type 0} {a b : A} → ◌≡◌ {A = Option A} (Some a) (Some b) → a ≡ b
same_some e = cc

same_ok : {a b : Line} → ◌≡◌ {A = Result Line WorldFault} (Ok a) (Ok b) → a ≡ b
same_ok e = cc

-- ONE ANSWER MORE

module _ (setup : Setup) (journal : List Event) (e : Event) where
  abbrev answers : List Event → List (Result Line WorldFault)
  answers events = map answer_of (octet_report setup events)

  abbrev event_told : Result Line WorldFault
  event_told = answer_of (event_report (open_octets annex_b) octets (octet_run setup journal) e)

  pub answers_more : answers (journal ++ e ∷ []) ≡ answers journal ++ event_told ∷ []
  answers_more = ap (map answer_of) (tale_snoc (open_octets annex_b) octets (Running (first_world setup)) journal e)
      ∙ map-append answer_of (octet_report setup journal) (event_report (open_octets annex_b) octets (octet_run setup journal) e ∷ [])

  answers_length : length (answers journal) ≡ length journal
  answers_length = length-map (octet_report setup journal) answer_of ∙ told_each (open_octets annex_b) octets (Running (first_world setup)) journal

  pub last_answer : slice_get (answers (journal ++ e ∷ [])) (length journal) ≡ Some event_told
  last_answer = ap (λ xs. slice_get xs (length journal)) answers_more ∙ ap (λ k. slice_get (answers journal ++ event_told ∷ []) k) (sym answers_length)
      ∙ slice_get_at_end (answers journal) event_told

-- THE KEY TAKEN

takes_made : (x : Took Term ℕ) (m : Made Term ℕ) (came : Came Term ℕ) → ObeysMade x came m → ahead m came < 8 → x.key ≡ m.key
takes_made x m Secured o low = o.0.0
takes_made x m (Commanded before) o low = (o.near low).0
takes_made x m (Changed before root) o low = (o.near low).0

takes_other : (x : Took Term ℕ) (m : Made Term ℕ) (came : Came Term ℕ) → ObeysMade x came m → 8 ≤ ahead m came → x.key ≡ m.key → ⊥
takes_other x m Secured o high same = omega (arith, high)
takes_other x m (Commanded before) o high same = (o.far high).0 same
takes_other x m (Changed before root) o high same = o.far high same

-- WHAT STANDS AT A PLACE

abbrev answered : world.Line Term → Line
answered told = line_out (map_line value_of told)

-- the key of a line
key_answered : (told : world.Line Term) (note : Note Term) → told.note ≡ Some note → key_told (answered told) ≡ Some (value_of note.key)
key_answered told note is = ap (λ o. option_map (λ n. n.key) (option_map note_out (option_map (map_note value_of) o))) is

module _ (v : Whole) (set : IsSetup v.setup) (are : AllOf IsEvent v.journal) where
  -- the line of a step
  line_at : (k : ℕ) (w : World Term ℕ (Outgoing Term ℕ)) (e : Event) (u : World Term ℕ (Outgoing Term ℕ))
      (told : world.Line Term)
      → IsStep v.setup v.journal k w e u told
      → slice_get (answers_of v) k ≡ Some (Ok (answered told))
  line_at k w e u told step =
      got_map answer_of (octet_report v.setup v.journal) k (Reported (map_line value_of told))
      (ap (λ xs. slice_get xs k) (tale_is_value annex_b annex_b_ciphers v.setup set v.journal are)
      ∙ got_map report_value (written_report v.setup v.journal) k (Reported told) (step_told v.setup v.journal k w e u told step))

  heads : Headline v.setup v.journal
  heads = headline v.setup v.journal set are

  module _ (k : ℕ) (line : Line) (there : slice_get (answers_of v) k ≡ Some (Ok line)) where
    -- PACKETS

    pub packets_open : PacketsOpen v k line
    packets_open sent brings =
        let told : TellsText v.setup v.journal k sent = heads.opening k sent brings in
        let is : line ≡ line_out told.line = same_ok
        (same_some
        (sym there ∙ got_map answer_of (octet_report v.setup v.journal) k (Reported told.line) told.told)) in
        (ap (λ (l : Line). l.answer) is ∙ told.done, ap (λ (l : Line). l.opened) is ∙ told.opened)

    -- COMMANDS

    pub commands_share : CommandsShare v k line
    commands_share x told takes commanded =
        let target : Follows v.setup v.journal k x told = heads.agreement k x told takes in
        let is : line ≡ answered told = same_ok (same_some (sym there ∙ line_at k takes.world takes.event takes.after told takes.step)) in
        let taken = takes_tell v.setup v.journal k x told takes in
        let made = makes_tell v.setup v.journal target.when target.made target.told target.makes in
        let took_is : key_told line ≡ Some (value_of x.key) = ap key_told is ∙ key_answered told taken.0 taken.2 ∙ ap (λ key. Some (value_of key)) taken.3 in
        let made_is : key_told (answered target.told) ≡ Some (value_of target.made.key) =
        key_answered target.told made.0 made.2 ∙ ap (λ key. Some (value_of key)) made.3 in
        record {
          target = target;
          earlier = answered target.told;
          answered = line_at target.when target.makes.world target.makes.event target.makes.after target.told target.makes.step;
          made = made_is;
          took = took_is;
          near = λ low. took_is ∙ ap (λ key. Some (value_of key)) (takes_made x target.made x.came target.obeys low) ∙ sym made_is;
          far = λ high same.
              takes_other x target.made x.came target.obeys high
              (one_term v.setup v.journal k x told takes target.when target.made target.told target.makes target.earlier
              (same_some (sym took_is ∙ same ∙ made_is)));
        }
