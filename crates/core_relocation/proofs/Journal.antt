-- The lines of a run with two cores are those of the one system that heard the events not answered NotHere.
use Rattle.std.proofs.Common.{◌≡◌, refl, sym, ap, ◌∙◌, ℕ, List, [], ◌∷◌, ◌++◌, map, Option, Some, None, Result, Ok, Err, append_assoc, append-nil}
use Rattle.key_model.specs.Term.{Term}
use Rattle.lte_events.specs.{declared.events.Event.Event, declared.lines.Line.Line, declared.setups.Setup.Setup}
use Rattle.lte_machine.specs.BothRuns.{annex_b_terms, written_report, written_run}
use Rattle.lte_machine.specs.{Ciphers.annex_b, Machines.written_machine, Opening.open_octets, Wire.Outgoing}
use Rattle.lte_machine.specs.Run.{EventReport, Running, RunState, first_world, replay, report, turn}
use Rattle.lte_world.specs.declared.faults.WorldFault.{WorldFault}
use Rattle.s1x2_rec.specs.Fields.{Fields}
use Rattle.core_relocation.specs.{declared.cores.Cores.Cores, declared.lines.TwoLine.TwoLine}
use Rattle.core_relocation.specs.Holder.{acting, away, station_in}
use Rattle.core_relocation.specs.Promises.{system_told, told_alone, unstepped}
use Rattle.core_relocation.specs.Run.{TwoState, answer_by, answers, cores_of, fields_of_run, first_state, heard_of, next_state, run_after, state_by, states, told_after, two_state}

-- one event more of a run
turned_more : (r : RunState Term ℕ (Outgoing Term ℕ)) (es : List Event) (e : Event)
    → replay (open_octets annex_b_terms) (written_machine annex_b) r (es ++ e ∷ [])
    ≡ turn (open_octets annex_b_terms) (written_machine annex_b) (replay (open_octets annex_b_terms) (written_machine annex_b) r es) e
turned_more r [] e = refl
turned_more r (d ∷ es) e = turned_more (turn (open_octets annex_b_terms) (written_machine annex_b) r d) es e

abbrev tale : RunState Term ℕ (Outgoing Term ℕ) → List Event → List (EventReport Term)
tale r es = report (open_octets annex_b_terms) (written_machine annex_b) r es

-- an event, where the system sees it
abbrev seen : Option ℕ → Event → List Event → List Event
seen (Some core) e rest = rest
seen None e rest = e ∷ rest

-- and what it tells
abbrev told_more : Option ℕ → Result Line WorldFault → List (Result Line WorldFault) → List (Result Line WorldFault)
told_more (Some core) told rest = rest
told_more None told rest = unstepped told ∷ rest

told_by : (o : Option ℕ) (acts step : ℕ) (told : Result Line WorldFault) (rest : List (Result TwoLine WorldFault))
    → system_told (answer_by o acts step told ∷ rest) ≡ told_more o told (system_told rest)
told_by (Some core) acts step told rest = refl
told_by None acts step (Ok line) rest = refl
told_by None acts step (Err fault) rest = refl

heard_by : (o : Option ℕ) (c : Cores) (s : TwoState) (e : Event) (fields : Option Fields)
    (told : Result Line WorldFault) (rest : List Event)
    → (state_by o c s e fields told).heard ++ rest ≡ s.heard ++ seen o e rest
heard_by (Some core) c s e fields told rest = refl
heard_by None c s e fields (Ok line) rest = append_assoc s.heard (e ∷ []) rest
heard_by None c s e fields (Err fault) rest = append_assoc s.heard (e ∷ []) rest

module _ (setup : Setup) (core_of : List ℕ) where
  abbrev asks : TwoState → Event → Option ℕ
  asks s e = away (cores_of setup core_of s) (station_in s.senders e) e

  -- the events that the system sees from here on
  abbrev all_seen : TwoState → List Event → List Event
  all_seen s [] = []
  all_seen s (e ∷ es) = seen (asks s e) e (all_seen (next_state setup core_of s e) es)

  heard_is : (s : TwoState) (es : List Event) → (states setup core_of s es).heard ≡ s.heard ++ all_seen s es
  heard_is s [] = sym (append-nil s.heard)
  heard_is s (e ∷ es) =
      heard_is (next_state setup core_of s e) es
      ∙ heard_by (asks s e) (cores_of setup core_of s) s e (fields_of_run (run_after setup core_of s.heard) e)
      (told_after setup core_of s.heard e) (all_seen (next_state setup core_of s e) es)

  tells : (s : TwoState) (e : Event) (rest : List Event) (o : Option ℕ) (told : Result Line WorldFault) → told ≡ told_after setup core_of s.heard e
      → told_more o told (map told_alone
      (tale (written_run setup
      (state_by o (cores_of setup core_of s) s e (fields_of_run (run_after setup core_of s.heard) e) told).heard)
      rest))
      ≡ map told_alone (tale (written_run setup s.heard) (seen o e rest))
  tells s e rest (Some core) told is = refl
  tells s e rest None (Ok line) is =
      ap (λ t. unstepped t ∷ map told_alone (tale (written_run setup (s.heard ++ e ∷ [])) rest)) is
      ∙ ap (λ r. unstepped (told_after setup core_of s.heard e) ∷ map told_alone (tale r rest)) (turned_more (Running (first_world setup)) s.heard e)
  tells s e rest None (Err fault) is =
      ap (λ t. unstepped t ∷ map told_alone (tale (written_run setup (s.heard ++ e ∷ [])) rest)) is
      ∙ ap (λ r. unstepped (told_after setup core_of s.heard e) ∷ map told_alone (tale r rest)) (turned_more (Running (first_world setup)) s.heard e)

  tale_from : (s : TwoState) (es : List Event) → system_told (answers setup core_of s es) ≡ map told_alone (tale (written_run setup s.heard) (all_seen s es))
  tale_from s [] = refl
  tale_from s (e ∷ es) =
      let c = cores_of setup core_of s in
      let told = told_after setup core_of s.heard e in
      told_by (asks s e) (acting c (station_in s.senders e)) s.steps told (answers setup core_of (next_state setup core_of s e) es)
      ∙ ap (told_more (asks s e) told) (tale_from (next_state setup core_of s e) es)
      ∙ tells s e (all_seen (next_state setup core_of s e) es) (asks s e) told refl

  -- from the beginning
  pub lines_are : (events : List Event)
      → system_told (answers setup core_of first_state events)
      ≡ map told_alone (written_report setup (heard_of setup core_of events))
  unfolding two_state
  lines_are events = tale_from first_state events ∙ ap (λ es. map told_alone (written_report setup es)) (sym (heard_is first_state events))
