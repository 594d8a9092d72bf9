-- What holds of two cores stays so at each event.
use Rattle.std.proofs.Common.{◌≡◌, refl, sym, ap, ◌∙◌, subst, ℕ, ◌+◌, ◌≤◌, List, [], ◌∷◌, ◌++◌, length, length-append, true, Option, Some, None, Ok, arith}
use Rattle.std.specs.List.{AllByRecursion as AllOf}
use Rattle.lte_events.specs.{Ranges.IsEvent, Ranges.IsSetup, declared.events.Event.Event, declared.lines.Line.Line, declared.lines.Who.Who, declared.classes.Class.Class, declared.setups.Setup.Setup}
use Rattle.lte_machine.specs.{Ciphers.annex_b, BothRuns.written_run, Carried.run_value, Run.GoesOn}
use Rattle.lte_machine.proofs.KnownLists.{all_append}
use Rattle.lte_world.specs.Whole.{Whole, run_of, told_of}
use Rattle.core_relocation.specs.{declared.cores.Held.Held, declared.senders.Sender.Sender}
use Rattle.core_relocation.specs.Holder.{acting, away, held_after, sent_by, station_in}
use Rattle.core_relocation.specs.Run.{TwoState, answer_in, state_in, state_by, fields_of_run, cores_of, next_answer, next_state, run_after, told_after, states, two_state, first_state}
use Rattle.core_relocation.specs.Whole.{TwoWhole, Keeps, StillRuns, state_of, state_written}
use Rattle.lte_world.proofs.TellsAsWritten.{tells_as_written, with_line}

-- ONE EVENT MORE

states_more : (setup : Setup) (core_of : List ℕ) (s : TwoState) (es : List Event) (e : Event)
    → states setup core_of s (es ++ e ∷ []) ≡ next_state setup core_of (states setup core_of s es) e
states_more setup core_of s [] e = refl
states_more setup core_of s (d ∷ es) e = states_more setup core_of (next_state setup core_of s d) es e

pub state_more : (setup : Setup) (core_of : List ℕ) (es : List Event) (e : Event)
    → two_state setup core_of (es ++ e ∷ []) ≡ next_state setup core_of (two_state setup core_of es) e
unfolding two_state
state_more setup core_of es e = states_more setup core_of first_state es e

one_longer : {A : Type 0} (xs ys : List A) (x : A) → ys ≡ xs ++ x ∷ [] → length ys ≡ length xs + 1
one_longer xs ys x e = ap length e ∙ length-append xs (x ∷ [])

-- THE WRITTEN RUN

module _ (v : TwoWhole) (k : Keeps v) (e : Event) (is : IsEvent e) (runs : StillRuns v) where
  abbrev setup : Setup
  setup = v.world.setup

  abbrev core_of : List ℕ
  core_of = v.cores.core_of

  cores_same : v.cores ≡ cores_of setup core_of (state_of v)
  cores_same = ap (λ sites. record { core_of = v.cores.core_of; cells = sites; held = v.cores.held }) k.cells

  told_same : told_of v.world e ≡ told_after setup core_of v.world.journal e
  told_same = tells_as_written v.world runs k.set k.are e is

  -- with what the system tells in place of what the written machine's run tells
  pub answer_written : answer_in v.cores (state_of v) (run_of v.world) (told_of v.world e) e ≡ next_answer setup core_of (state_written v) e
  answer_written =
      ap (λ c. answer_in c (state_of v) (run_of v.world) (told_of v.world e) e) cores_same
      ∙ ap (λ told. answer_in (cores_of setup core_of (state_of v)) (state_of v) (run_of v.world) told e) told_same
      ∙ ap (λ s. next_answer setup core_of s e) (k.state runs)

  pub next_written : state_in v.cores (state_of v) (run_of v.world) (told_of v.world e) e ≡ two_state setup core_of (v.events ++ e ∷ [])
  next_written =
      ap (λ c. state_in c (state_of v) (run_of v.world) (told_of v.world e) e) cores_same
      ∙ ap (λ told. state_in (cores_of setup core_of (state_of v)) (state_of v) (run_of v.world) told e) told_same
      ∙ ap (λ run. state_in (cores_of setup core_of (state_of v)) (state_of v) run (told_after setup core_of v.world.journal e) e) (k.run runs)
      ∙ ap (λ s. next_state setup core_of s e) (k.state runs)
      ∙ sym (state_more setup core_of v.events e)

-- NOT HERE

module _ (v : TwoWhole) (e : Event) (core : ℕ) (not_here : away v.cores (station_in v.senders e) e ≡ Some core)
    (w : Whole) (same : w ≡ record v.world { ready = true }) (events : List Event) (more : events ≡ v.events ++ e ∷ [])
    (senders : List Sender) (sent : senders ≡ v.senders) where
  abbrev after_away : TwoWhole
  after_away = record { world = w; cores = v.cores; events = events; senders = senders }

  pub away_state : state_of after_away ≡ state_in v.cores (state_of v) (run_of v.world) (told_of v.world e) e
  away_state =
      (λ j. record { steps = one_longer v.events events e more j; heard = (same j).journal; held = v.cores.held; senders = sent j })
      ∙ ap (λ o. state_by o v.cores (state_of v) e (fields_of_run (run_of v.world) e) (told_of v.world e)) (sym not_here)

  pub away_runs : StillRuns after_away → StillRuns v
  away_runs runs = subst (λ u. GoesOn (run_of u)) same runs

  pub keeps_away : Keeps v → IsEvent e → Keeps after_away
  keeps_away k is =
      let longer = one_longer v.events events e more in record {
        set = subst (λ u. IsSetup u.setup) (sym same) k.set;
        are = subst (λ u. AllOf IsEvent u.journal) (sym same) k.are;
        cells = k.cells ∙ ap (λ u. u.setup.cells) (sym same);
        heard = omega (arith, ap (λ u. length u.journal) same, k.heard, longer);
        sent = omega (arith, ap length sent, k.sent, longer);
        run = λ runs. subst (λ u. run_of u ≡ run_after u.setup v.cores.core_of u.journal) (sym same) (k.run (away_runs runs));
        state = λ runs. away_state ∙ next_written v k e is (away_runs runs)
            ∙ ap (two_state v.world.setup v.cores.core_of) (sym more) ∙ ap (λ u. two_state u.setup v.cores.core_of events) (sym same);
      }

-- WITH A LINE

sent_least : (who : Who) (o : Option (ℕ × Class)) → length (sent_by who o) ≤ 1
sent_least who None = omega arith
sent_least who (Some sent) = omega arith

module _ (v : TwoWhole) (e : Event) (here : away v.cores (station_in v.senders e) e ≡ None) (line : Line) (told : told_of v.world e ≡ Ok line)
    (w : Whole) (set : w.setup ≡ v.world.setup) (longer : w.journal ≡ v.world.journal ++ e ∷ []) (held : Held)
    (is_held : held ≡ held_after v.cores (acting v.cores (station_in v.senders e)) e (fields_of_run (run_of v.world) e) line)
    (events : List Event) (more : events ≡ v.events ++ e ∷ []) (senders : List Sender) (sent : senders ≡ v.senders ++ sent_by line.who line.sent) where
  abbrev after_line : TwoWhole
  after_line = record { world = w; cores = record v.cores { held = held }; events = events; senders = senders }

  pub line_state : state_of after_line ≡ state_in v.cores (state_of v) (run_of v.world) (told_of v.world e) e
  line_state =
      (λ j. record { steps = one_longer v.events events e more j; heard = longer j; held = is_held j; senders = sent j })
      ∙ ap (λ r. state_by None v.cores (state_of v) e (fields_of_run (run_of v.world) e) r) (sym told)
      ∙ ap (λ o. state_by o v.cores (state_of v) e (fields_of_run (run_of v.world) e) (told_of v.world e)) (sym here)

  pub keeps_line : run_of w ≡ run_value annex_b (written_run w.setup w.journal) → Keeps v → IsEvent e → Keeps after_line
  keeps_line written k is =
      let ran = (with_line v.world e line told).0 in
      let one_more = one_longer v.events events e more in record {
        set = subst IsSetup (sym set) k.set;
        are = subst (AllOf IsEvent) (sym longer) (all_append IsEvent v.world.journal (e ∷ []) k.are (is, tt));
        cells = k.cells ∙ ap (λ s. s.cells) (sym set);
        heard = omega (arith, one_longer v.world.journal w.journal e longer, k.heard, one_more);
        sent = omega (arith, ap length sent ∙ length-append v.senders (sent_by line.who line.sent), sent_least line.who line.sent, k.sent, one_more);
        run = λ runs. written;
        state = λ runs.
            line_state
            ∙ next_written v k e is ran
            ∙ ap (two_state v.world.setup v.cores.core_of) (sym more)
            ∙ ap (λ s. two_state s v.cores.core_of events) (sym set);
      }
