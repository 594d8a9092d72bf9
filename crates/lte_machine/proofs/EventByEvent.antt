-- A run and what it tells, event by event.
use Rattle.std.proofs.Common.{◌≡◌, refl, sym, ap, ◌∙◌, ℕ, zero, suc, List, [], ◌∷◌, ◌++◌, take, length, Option, Some, None, subst, map}
use Rattle.std.specs.{Prelude.slice_get, List.AllByRecursion as AllOf}
use Rattle.lte_events.specs.{Ranges.IsEvent, Ranges.IsSetup, declared.events.Event.Event, declared.setups.Setup.Setup}
use Rattle.key_model.specs.{Term.Term, Value.value_of}
use Rattle.lte_machine.specs.BothRuns.{annex_b_terms, written_run, written_report, octet_run, octet_report}
use Rattle.lte_machine.specs.ByEvent.{EndsAt, in_octets, IsValueOfRun, IsStep, Told, IsOctetStep, IsValueOfStep}
use Rattle.lte_machine.specs.Carried.{run_value, map_line, report_value}
use Rattle.lte_machine.specs.{Ciphers.annex_b, Ladder.Clash, Ladder.ladder_of, Tuples.Coincidence, Wire.Outgoing}
use Rattle.lte_machine.specs.Machines.{Kept, written_machine, machine_in_octets}
use Rattle.lte_machine.specs.Opening.{Opening, Outcome, open_octets}
use Rattle.lte_machine.specs.Run.{RunState, Running, Stopped, after, turn, replay, EventReport, Reported, Coincided, reported, event_report, report, first_world}
use Rattle.lte_machine.specs.Step.{StepResult, Continues, Stops, by_ladder, by_coincidence, opening_coincidence, attempted, next}
use Rattle.lte_machine.specs.World.{Machine, World, Line, happens}
use Rattle.lte_machine.proofs.{AnnexB.annex_b_ciphers, WholeRun.run_is_value, WholeRun.tale_is_value, StillRun.still_one, StillRun.over_stays}

module _ {K C S : Type 0} (by_octets : Opening K → List ℕ → Outcome) (m : Machine K C S) where
  pub replay_snoc : (r : RunState K C S) (es : List Event) (e : Event) → replay by_octets m r (es ++ e ∷ []) ≡ turn by_octets m (replay by_octets m r es) e
  replay_snoc r [] e = refl
  replay_snoc r (d ∷ es) e = replay_snoc (turn by_octets m r d) es e

  pub tale_snoc : (r : RunState K C S) (es : List Event) (e : Event)
      → report by_octets m r (es ++ e ∷ [])
      ≡ report by_octets m r es ++ event_report by_octets m (replay by_octets m r es) e ∷ []
  tale_snoc r [] e = refl
  tale_snoc r (d ∷ es) e = ap (λ s. event_report by_octets m r d ∷ s) (tale_snoc (turn by_octets m r d) es e)

  pub told_each : (r : RunState K C S) (es : List Event) → length (report by_octets m r es) ≡ length es
  told_each r [] = refl
  told_each r (e ∷ es) = ap suc (told_each (turn by_octets m r e) es)

  -- where a run goes on, it went on by each prefix
  abbrev GoesOn : RunState K C S → Type 0
  GoesOn r = (w : World K C S) × (r ≡ Running w)

  went_on : (r : RunState K C S) (es : List Event) (u : World K C S) → replay by_octets m r es ≡ Running u → GoesOn r
  went_on (Running w) es u is = (w, refl)
  went_on (Stopped coincidence) es u is = let bad : Stopped coincidence ≡ Running u = sym (over_stays by_octets m coincidence es) ∙ is in absurd cc

  replay_parts : (r : RunState K C S) (es fs : List Event) → replay by_octets m r (es ++ fs) ≡ replay by_octets m (replay by_octets m r es) fs
  replay_parts r [] fs = refl
  replay_parts r (e ∷ es) fs = replay_parts (turn by_octets m r e) es fs

  pub prefix_goes_on : (r : RunState K C S) (es fs : List Event) (u : World K C S)
      → replay by_octets m r (es ++ fs) ≡ Running u
      → GoesOn (replay by_octets m r es)
  prefix_goes_on r es fs u is = went_on (replay by_octets m r es) fs u (sym (replay_parts r es fs) ∙ is)

  -- a run that is over has the event at which it stopped
  one_more : (w u : World K C S) (e : Event) (es : List Event) (coincidence : Coincidence K)
      → turn by_octets m (Running w) e ≡ Running u
      → EndsAt by_octets m u es coincidence
      → EndsAt by_octets m w (e ∷ es) coincidence
  one_more w u e es coincidence is h = record {
    before = e ∷ h.before;
    event = h.event;
    rest = h.rest;
    world = h.world;
    parts = ap (λ xs. e ∷ xs) h.parts;
    went_on = ap (λ r. replay by_octets m r h.before) is ∙ h.went_on;
    stops = h.stops;
  }

  same_coincidence : (a b : Coincidence K) (es : List Event) → replay by_octets m (Stopped a) es ≡ Stopped b → a ≡ b
  same_coincidence a b es is = let one : Stopped a ≡ Stopped b = sym (over_stays by_octets m a es) ∙ is in cc

  pub ends_at : (w : World K C S) (es : List Event) (coincidence : Coincidence K)
      → replay by_octets m (Running w) es ≡ Stopped coincidence
      → EndsAt by_octets m w es coincidence
  ends_at w [] coincidence is = absurd cc
  ends_at w (e ∷ es) coincidence is = by (next by_octets m w e) refl is (λ u. ends_at u es coincidence)
    where
      by : (s : StepResult K C S) → next by_octets m w e ≡ s → replay by_octets m (after s) es ≡ Stopped coincidence
          → ((u : World K C S)
          → replay by_octets m (Running u) es ≡ Stopped coincidence
          → EndsAt by_octets m u es coincidence)
          → EndsAt by_octets m w (e ∷ es) coincidence
      by (Continues u line) is k rest = one_more w u e es coincidence (ap after is) (rest u k)
      by (Stops c) is k rest = record {
        before = [];
        event = e;
        rest = es;
        world = w;
        parts = refl;
        went_on = refl;
        stops = is ∙ ap (λ x. Stops x) (same_coincidence c coincidence es k);
      }

  -- WHAT IS TOLD OF A STEP

  pub told_at : (r : RunState K C S) (es : List Event) (k : ℕ) (e : Event) → slice_get es k ≡ Some e
      → slice_get (report by_octets m r es) k ≡ Some (event_report by_octets m (replay by_octets m r (take k es)) e)
  told_at r [] k e is = absurd cc
  told_at r (d ∷ es) zero e is = let one : d ≡ e = cc in ap (λ x. Some (event_report by_octets m r x)) one
  told_at r (d ∷ es) (suc k) e is = told_at (turn by_octets m r d) es k e is

  step_one : (h : World K C S × Line K) (o : Option (Clash K)) (u : World K C S) (line : Line K) → by_ladder o h ≡ Continues u line → (u ≡ h.0) × (line ≡ h.1)
  step_one h None u line is = (cc, cc)
  step_one h (Some clash) u line is = absurd cc

  step_two : (h : World K C S × Line K) (o : Option (Coincidence K)) (u : World K C S) (line : Line K)
      → by_coincidence m.reading.same o h ≡ Continues u line
      → (u ≡ h.0) × (line ≡ h.1)
  step_two h None u line is = step_one h (ladder_of m.reading.same h.0.history).clash u line is
  step_two h (Some coincidence) u line is = absurd cc

  -- a step that goes on is what happens
  pub step_is : (w : World K C S) (e : Event) (u : World K C S) (line : Line K)
      → next by_octets m w e ≡ Continues u line
      → (u ≡ (happens m w e).0) × (line ≡ (happens m w e).1)
  step_is w e u line is = step_two (happens m w e) (opening_coincidence by_octets m (attempted m w e)) u line is

-- THE WRITTEN MACHINE

pub written_still : (setup : Setup) (events : List Event)
    → IsSetup setup
    → AllOf IsEvent events
    → (u : World (List ℕ) ℕ Kept)
    → octet_run setup events ≡ Running u
    → IsValueOfRun setup events u
written_still setup events set are u is =
    by (written_run setup events) refl (sym (run_is_value annex_b annex_b_ciphers setup set events are) ∙ is)
  where
    by : (r : RunState Term ℕ (Outgoing Term ℕ)) → written_run setup events ≡ r → run_value annex_b r ≡ Running u → IsValueOfRun setup events u
    by (Running w) e f = let one : in_octets w ≡ u = cc in record { world = w; runs = e; value = sym one }
    by (Stopped coincidence) e f = absurd cc

-- the world after a step
pub step_after : (setup : Setup) (events : List Event) (k : ℕ) (w : World Term ℕ (Outgoing Term ℕ)) (e : Event)
    (u : World Term ℕ (Outgoing Term ℕ)) (line : Line Term)
    → IsStep setup events k w e u line → written_run setup (take k events ++ e ∷ []) ≡ Running u
step_after setup events k w e u line h =
    replay_snoc (open_octets annex_b_terms) (written_machine annex_b) (Running (first_world setup)) (take k events) e
    ∙ ap (λ r. turn (open_octets annex_b_terms) (written_machine annex_b) r e) h.before ∙ ap after h.goes_on

pub take_more : (es : List Event) (k : ℕ) (e : Event) → slice_get es k ≡ Some e → take (suc k) es ≡ take k es ++ e ∷ []
take_more [] k e is = absurd cc
take_more (d ∷ es) zero e is = let one : d ≡ e = cc in ap (λ x. x ∷ []) one
take_more (d ∷ es) (suc k) e is = ap (λ xs. d ∷ xs) (take_more es k e is)

pub step_takes : (setup : Setup) (events : List Event) (k : ℕ) (w : World Term ℕ (Outgoing Term ℕ)) (e : Event)
    (u : World Term ℕ (Outgoing Term ℕ)) (line : Line Term)
    → IsStep setup events k w e u line → written_run setup (take (suc k) events) ≡ Running u
step_takes setup events k w e u line h = ap (written_run setup) (take_more events k e h.event) ∙ step_after setup events k w e u line h

-- the line of a step is what is told of its event
pub step_told : (setup : Setup) (events : List Event) (k : ℕ) (w : World Term ℕ (Outgoing Term ℕ)) (e : Event)
    (u : World Term ℕ (Outgoing Term ℕ)) (line : Line Term)
    → IsStep setup events k w e u line → slice_get (written_report setup events) k ≡ Some (Reported line)
step_told setup events k w e u line h =
    told_at (open_octets annex_b_terms) (written_machine annex_b) (Running (first_world setup)) events k e h.event
    ∙ ap (λ r. Some (event_report (open_octets annex_b_terms) (written_machine annex_b) r e)) h.before ∙ ap (λ s. Some (reported s)) h.goes_on

-- and a line that was told is that of a step
pub told_step : (setup : Setup) (events : List Event) (k : ℕ) (line : Line Term)
    → slice_get (written_report setup events) k ≡ Some (Reported line)
    → Told setup events k line
told_step setup events k line is = by_event (slice_get events k) refl
  where
    by_next : (e : Event) (w : World Term ℕ (Outgoing Term ℕ)) (s : StepResult Term ℕ (Outgoing Term ℕ))
        → slice_get events k ≡ Some e
        → written_run setup (take k events) ≡ Running w
        → next (open_octets annex_b_terms) (written_machine annex_b) w e ≡ s → Some (reported s) ≡ Some (Reported line) → Told setup events k line
    by_next e w (Continues u l) f g h same =
        let one : l ≡ line = cc in
        record {
          world = w;
          event = e;
          after = u;
          step = record { event = f; before = g; goes_on = h ∙ ap (λ x. Continues u x) one };
        }
    by_next e w (Stops coincidence) f g h same = absurd cc

    by_run : (e : Event) (r : RunState Term ℕ (Outgoing Term ℕ)) → slice_get events k ≡ Some e → written_run setup (take k events) ≡ r
        → Some (event_report (open_octets annex_b_terms) (written_machine annex_b) r e) ≡ Some (Reported line) → Told setup events k line
    by_run e (Running w) f g same = by_next e w (next (open_octets annex_b_terms) (written_machine annex_b) w e) f g refl same
    by_run e (Stopped coincidence) f g same = absurd cc

    no_event : (es : List Event) (r : RunState Term ℕ (Outgoing Term ℕ)) (j : ℕ)
        → slice_get es j ≡ None
        → slice_get (report (open_octets annex_b_terms) (written_machine annex_b) r es) j ≡ None
    no_event [] r j f = refl
    no_event (d ∷ es) r zero f = absurd cc
    no_event (d ∷ es) r (suc j) f = no_event es (turn (open_octets annex_b_terms) (written_machine annex_b) r d) j f

    by_event : (o : Option Event) → slice_get events k ≡ o → Told setup events k line
    by_event None f = let bad : None ≡ Some (Reported line) = sym (no_event events (Running (first_world setup)) k f) ∙ is in absurd cc
    by_event (Some e) f =
        by_run e (written_run setup (take k events)) f refl
        (sym (told_at (open_octets annex_b_terms) (written_machine annex_b) (Running (first_world setup)) events k e f) ∙ is)

-- world and line of a step are what happens
pub step_happens : (setup : Setup) (events : List Event) (k : ℕ) (w : World Term ℕ (Outgoing Term ℕ)) (e : Event)
    (u : World Term ℕ (Outgoing Term ℕ)) (line : Line Term)
    → IsStep setup events k w e u line → (u, line) ≡ happens (written_machine annex_b) w e
step_happens setup events k w e u line h =
    let same = step_is (open_octets annex_b_terms) (written_machine annex_b) w e u line h.goes_on in λ j. (same.0 j, same.1 j)

-- IN OCTETS

-- the first events are events
pub each_of_first : (n : ℕ) (es : List Event) → AllOf IsEvent es → AllOf IsEvent (take n es)
each_of_first zero es h = tt
each_of_first (suc n) [] h = tt
each_of_first (suc n) (e ∷ es) h = (h.0, each_of_first n es h.1)

-- what stands at a place of a list that was mapped
got_of_map : {A B : Type 0} (f : A → B) (xs : List A) (k : ℕ) (y : B) → slice_get (map f xs) k ≡ Some y → (x : A) × (slice_get xs k ≡ Some x) × (y ≡ f x)
got_of_map f [] k y e = absurd cc
got_of_map f (x ∷ xs) zero y e = (x, refl, cc)
got_of_map f (x ∷ xs) (suc k) y e = got_of_map f xs k y e

-- a line in octets is the value of a line
line_of_value : (s : EventReport Term) (line : Line (List ℕ))
    → Reported line ≡ report_value s
    → (told : Line Term) × (s ≡ Reported told) × (line ≡ map_line value_of told)
line_of_value (Reported told) line e = (told, refl, cc)
line_of_value (Coincided coincidence) line e = absurd cc

module _ (setup : Setup) (events : List Event) (set : IsSetup setup) (are : AllOf IsEvent events) where
  pub step_of_value : (k : ℕ) (v : World (List ℕ) ℕ Kept) (e : Event) (u : World (List ℕ) ℕ Kept) (line : Line (List ℕ))
      → IsOctetStep setup events k v e u line
      → IsValueOfStep setup events k v e u line
  step_of_value k v e u line h = record {
    world = was.world;
    later = step.after;
    told = told.0;
    step = here;
    before = was.value;
    afterwards = still_one (sym runs ∙ value_after);
    line_is = told.2;
  }
    where
      was : IsValueOfRun setup (take k events) v
      was = written_still setup (take k events) set (each_of_first k events are) v h.before

      -- what the run in octets tells at this place
      octets_tell : slice_get (octet_report setup events) k ≡ Some (Reported line)
      octets_tell =
          told_at (open_octets annex_b) (machine_in_octets annex_b) (Running (first_world setup)) events k e h.event
          ∙ ap (λ r. Some (event_report (open_octets annex_b) (machine_in_octets annex_b) r e)) h.before ∙ ap (λ s. Some (reported s)) h.goes_on

      tell : (s : EventReport Term) × (slice_get (written_report setup events) k ≡ Some s) × (Reported line ≡ report_value s)
      tell = got_of_map report_value (written_report setup events) k (Reported line)
          (ap (λ xs. slice_get xs k) (sym (tale_is_value annex_b annex_b_ciphers setup set events are)) ∙ octets_tell)

      told : (l : Line Term) × (tell.0 ≡ Reported l) × (line ≡ map_line value_of l)
      told = line_of_value tell.0 line tell.2

      step : Told setup events k told.0
      step = told_step setup events k told.0 (tell.1 ∙ ap (λ s. Some s) told.1)

      same_event : step.event ≡ e
      same_event = by (sym step.step.event ∙ h.event)
        where
          by : Some step.event ≡ Some e → step.event ≡ e
          by f = cc

      same_world : step.world ≡ was.world
      same_world = still_one (sym step.step.before ∙ was.runs)

      here : IsStep setup events k was.world e step.after told.0
      here =
          subst (λ w. IsStep setup events k w e step.after told.0) same_world
          (subst (λ d. IsStep setup events k step.world d step.after told.0) same_event step.step)

      -- and the world after it
      runs : octet_run setup (take (suc k) events) ≡ Running u
      runs =
          ap (octet_run setup) (take_more events k e h.event)
          ∙ replay_snoc (open_octets annex_b) (machine_in_octets annex_b) (Running (first_world setup)) (take k events) e
          ∙ ap (λ r. turn (open_octets annex_b) (machine_in_octets annex_b) r e) h.before ∙ ap after h.goes_on

      value_after : octet_run setup (take (suc k) events) ≡ Running (in_octets step.after)
      value_after =
          run_is_value annex_b annex_b_ciphers setup set (take (suc k) events) (each_of_first (suc k) events are)
          ∙ ap (run_value annex_b) (step_takes setup events k was.world e step.after told.0 here)
