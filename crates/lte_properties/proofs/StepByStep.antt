-- What the phone takes at a step was made at an earlier one.
use Rattle.std.proofs.Common.{◌≡◌, refl, sym, ap, ◌∙◌, subst, ℕ, zero, suc, ◌+◌, ◌<◌, arith, Bool, true, false, cond, List, [], ◌∷◌, ◌++◌, take, Option, Some, None, inl, inr}
use Rattle.std.specs.Prelude.{◌⊎◌, slice_get, find}
use Rattle.std.specs.{Option.option_or, List.AllByRecursion as AllOf}
use Rattle.std.proofs.lemmas.List.Folds.{find-append}
use Rattle.lte_events.specs.{Ranges.IsEvent, Ranges.IsSetup, declared.events.Event.Event, declared.lines.Who.Who, declared.setups.Setup.Setup}
use Rattle.key_model.specs.{Chain.ncc_of, Term.Term, Term.Root, Value.same_value}
use Rattle.lte_machine.specs.{BothRuns.annex_b_terms, BothRuns.written_run, ByEvent.IsStep, Ciphers.annex_b, Ciphers.octets_of, Opening.open_octets, Opening.open_by_uses, Wire.Outgoing, World.Line, World.happens}
use Rattle.lte_machine.specs.Machines.{sender_of, written_machine, written_in_values}
use Rattle.lte_machine.specs.Reply.{Made, Came, Secured, Commanded, Changed, Took}
use Rattle.lte_machine.specs.Run.{Running, Stopped, after, turn, run, first_world}
use Rattle.lte_machine.specs.Step.{StepResult, Continues, Stops, next}
use Rattle.lte_machine.proofs.{AnnexB.annex_b_ciphers, StillRun.still_is_run, StillRun.still_one, Worlds.TheWorld}
use Rattle.lte_machine.proofs.EventByEvent.{step_takes, step_happens, prefix_goes_on, replay_snoc, take_more, each_of_first}
use Rattle.lte_properties.specs.Agreement.{is_made_at, made_at, ahead, ObeysMade, Obeys, Reported, MadeIsTold, TookIsTold, TellsNote, CompletedLines}
use Rattle.lte_properties.specs.BySteps.{MakesAt, TakesAt, TellOneKey, Follows}
use Rattle.lte_properties.proofs.{Agreement.Noted.keys_told, Agreement.Noted.BothTold, Agreement.ToldIsFound.made_there, EveryLine.lines_completed, EveryRun.agrees}

module _ (setup : Setup) (events : List Event) where
  abbrev start : TheWorld
  start = first_world setup

  -- WHAT A STEP TELLS

  pub step_tells : (k : ℕ) (w : TheWorld) (e : Event) (u : TheWorld) (line : Line Term)
      → IsStep setup events k w e u line
      → MadeIsTold w u line × TookIsTold w u line
  step_tells k w e u line is =
      let told = keys_told same_value Root (octets_of annex_b_terms written_in_values) sender_of (open_by_uses same_value annex_b_terms) w (e ∷ []) in
      subst (BothTold w) (sym (step_happens setup events k w e u line is)) (told.0, told.1)

  -- of the last event
  completed_last : (v : TheWorld) (es : List Event) (e : Event) → CompletedLines (written_machine annex_b) v (es ++ e ∷ [])
      → let h = happens (written_machine annex_b) (run (written_machine annex_b) v es) e in TellsNote h.0 h.1.who h.1.note
  completed_last v [] e c = c.0
  completed_last v (d ∷ es) e c = completed_last (happens (written_machine annex_b) v d).0 es e c.1

  -- WHEN IT WAS MADE

  found_one : (made : List (Made Term ℕ)) (n m : Made Term ℕ) (station air : ℕ) → made_at (made ++ n ∷ []) station air ≡ Some m
      → (made_at made station air ≡ Some m) ⊎ (n ≡ m)
  found_one made n m station air is = by (made_at made station air) refl (sym (find-append (is_made_at station air) made (n ∷ [])) ∙ is)
    where
      last : (b : Bool) → cond b (Some n) None ≡ Some m → n ≡ m
      last true e = cc
      last false e = absurd cc

      by : (o : Option (Made Term ℕ)) → made_at made station air ≡ o → option_or (made_at made station air) (find (is_made_at station air) (n ∷ [])) ≡ Some m
          → (made_at made station air ≡ Some m) ⊎ (n ≡ m)
      by None e f = inr (last (is_made_at station air n) (ap (λ o. option_or o (find (is_made_at station air) (n ∷ []))) (sym e) ∙ f))
      by (Some x) e f = inl (e ∙ ap (λ o. option_or o (find (is_made_at station air) (n ∷ []))) (sym e) ∙ f)

  -- it was made at some step before
  abbrev WasMade : ℕ → Made Term ℕ → Type 0
  WasMade n m = (j : ℕ) × (j < n) × (line : Line Term) × MakesAt setup events j m line

  was_later : (n : ℕ) (m : Made Term ℕ) → WasMade n m → WasMade (suc n) m
  was_later n m h = (h.0, omega arith, h.2, h.3)

  -- by the last step of these
  by_last : (i : ℕ) (w : TheWorld) (e : Event) (u : TheWorld) (line : Line Term) → IsStep setup events i w e u line → (m : Made Term ℕ) (station air : ℕ)
      → made_at u.made station air ≡ Some m → (made_at w.made station air ≡ Some m → WasMade i m) → WasMade (suc i) m
  by_last i w e u line is m station air found before = by (step_tells i w e u line is).0
    where
      by : MadeIsTold w u line → WasMade (suc i) m
      by (inl same) = was_later i m (before (ap (λ ms. made_at ms station air) (sym same.0) ∙ found))
      by (inr (n, grows, told)) = one (found_one w.made n m station air (ap (λ ms. made_at ms station air) (sym grows) ∙ found))
        where
          one : (made_at w.made station air ≡ Some m) ⊎ (n ≡ m) → WasMade (suc i) m
          one (inl old) = was_later i m (before old)
          one (inr new) = (i, omega arith, line, record { world = w; event = e; after = u; step = is; makes = grows ∙ ap (λ x. w.made ++ x ∷ []) new })

  -- the step that leads to a world in which a run goes on
  abbrev LedBy : ℕ → Event → TheWorld → Type 0
  LedBy i e u = (w : TheWorld) × (line : Line Term) × IsStep setup events i w e u line

  led_by : (i : ℕ) (e : Event) (u : TheWorld) → slice_get events i ≡ Some e → written_run setup (take (suc i) events) ≡ Running u → LedBy i e u
  led_by i e u at runs =
      let more : written_run setup (take i events ++ e ∷ []) ≡ Running u = ap (written_run setup) (sym (take_more events i e at)) ∙ runs in
      let goes = prefix_goes_on (open_octets annex_b_terms) (written_machine annex_b) (Running start) (take i events) (e ∷ []) u more in
      by goes.0 goes.1 (next (open_octets annex_b_terms) (written_machine annex_b) goes.0 e) refl
      (ap (λ r. turn (open_octets annex_b_terms) (written_machine annex_b) r e) (sym goes.1)
      ∙ sym (replay_snoc (open_octets annex_b_terms) (written_machine annex_b) (Running start) (take i events) e) ∙ more)
    where
      by : (w : TheWorld) → written_run setup (take i events) ≡ Running w → (s : StepResult Term ℕ (Outgoing Term ℕ))
          → next (open_octets annex_b_terms) (written_machine annex_b) w e ≡ s
          → after (next (open_octets annex_b_terms) (written_machine annex_b) w e) ≡ Running u
          → LedBy i e u
      by w is (Continues v line) f g =
          let same : v ≡ u = still_one (ap after (sym f) ∙ g) in (w, line, record { event = at; before = is; goes_on = f ∙ ap (λ x. Continues x line) same })
      by w is (Stops coincidence) f g = let bad : Stopped coincidence ≡ Running u = ap after (sym f) ∙ g in absurd cc

  no_more : (es : List Event) (i : ℕ) → slice_get es i ≡ None → take (suc i) es ≡ take i es
  no_more [] zero is = refl
  no_more [] (suc i) is = refl
  no_more (d ∷ es) zero is = absurd cc
  no_more (d ∷ es) (suc i) is = ap (λ xs. d ∷ xs) (no_more es i is)

  -- what each step keeps holds in each later world
  pub holds_on : (P : TheWorld → Type 0) → ((i : ℕ) (w : TheWorld) (e : Event) (u : TheWorld) (line : Line Term) → IsStep setup events i w e u line → P w → P u)
      → (d n k : ℕ) → n ≡ k + d → (w u : TheWorld) → written_run setup (take k events) ≡ Running w → written_run setup (take n events) ≡ Running u → P w → P u
  holds_on P f zero n k is w u before after h =
      let same : n ≡ k = omega arith in
      subst P (still_one (sym before ∙ ap (λ j. written_run setup (take j events)) (sym same) ∙ after)) h
  holds_on P f (suc d) n k is w u before after h = by (slice_get events (k + d)) refl (λ v runs. holds_on P f d (k + d) k refl w v before runs h)
    where
      here : written_run setup (take (suc (k + d)) events) ≡ Running u
      here = let same : n ≡ suc (k + d) = omega arith in ap (λ j. written_run setup (take j events)) (sym same) ∙ after

      by : (o : Option Event) → slice_get events (k + d) ≡ o → ((v : TheWorld) → written_run setup (take (k + d) events) ≡ Running v → P v) → P u
      by None at rest = rest u (ap (written_run setup) (sym (no_more events (k + d) at)) ∙ here)
      by (Some e) at rest =
          let led = led_by (k + d) e u at here in f (k + d) led.0 e u led.1 led.2 (rest led.0 led.2.before)

  pub was_made : (n : ℕ) (u : TheWorld)
      → written_run setup (take n events) ≡ Running u
      → (m : Made Term ℕ) (station air : ℕ)
      → made_at u.made station air ≡ Some m
      → WasMade n m
  was_made zero u runs m station air found =
      let bad : None ≡ Some m = ap (λ x. made_at x.made station air) (still_one runs) ∙ found in absurd cc
  was_made (suc i) u runs m station air found = by (slice_get events i) refl (λ w is f. was_made i w is m station air f)
    where
      by : (o : Option Event)
          → slice_get events i ≡ o
          → ((w : TheWorld)
          → written_run setup (take i events) ≡ Running w
          → made_at w.made station air ≡ Some m
          → WasMade i m)
          → WasMade (suc i) m
      by None at rest = was_later i m (rest u (ap (written_run setup) (sym (no_more events i at)) ∙ runs) found)
      by (Some e) at rest =
          let led = led_by i e u at runs in
          by_last i led.0 e u led.1 led.2 m station air found (rest led.0 led.2.before)

  -- WHAT THE PHONE TAKES

  pub all_last : (P : Took Term ℕ → Type 0) (xs : List (Took Term ℕ)) (x : Took Term ℕ) → AllOf P (xs ++ x ∷ []) → P x
  all_last P [] x h = h.0
  all_last P (y ∷ ys) x h = all_last P ys x h.1

  -- one more is not the same
  one_longer : (xs : List (Took Term ℕ)) (x : Took Term ℕ) → xs ++ x ∷ [] ≡ xs → ⊥
  one_longer [] x e = cc
  one_longer (y ∷ ys) x e = let rest : ys ++ x ∷ [] ≡ ys = cc in one_longer ys x rest

  same_last : (xs : List (Took Term ℕ)) (x y : Took Term ℕ) → xs ++ x ∷ [] ≡ xs ++ y ∷ [] → x ≡ y
  same_last [] x y e = cc
  same_last (z ∷ zs) x y e = let rest : zs ++ x ∷ [] ≡ zs ++ y ∷ [] = cc in same_last zs x y rest

  -- its line tells what it took
  pub takes_tell : (k : ℕ) (x : Took Term ℕ) (line : Line Term) → TakesAt setup events k x line → Reported line Who.Phone x.key x.number
  takes_tell k x line h = by (step_tells k h.world h.event h.after line h.step).1
    where
      by : TookIsTold h.world h.after line → Reported line Who.Phone x.key x.number
      by (inl same) = absurd (one_longer h.world.took x (sym h.takes ∙ same.0))
      by (inr (y, grows, told)) =
          let one : y ≡ x = same_last h.world.took y x (sym grows ∙ h.takes) in subst (λ z. Reported line Who.Phone z.key z.number) one told

  -- and a step at which the phone takes a key makes nothing
  none_made : (k : ℕ) (x : Took Term ℕ) (line : Line Term) → (h : TakesAt setup events k x line) → h.after.made ≡ h.world.made
  none_made k x line h = by (step_tells k h.world h.event h.after line h.step).0
    where
      by : MadeIsTold h.world h.after line → h.after.made ≡ h.world.made
      by (inl same) = same.0
      by (inr (m, grows, told)) =
          let bad : Who.Station m.station ≡ Who.Phone = sym told.1 ∙ (takes_tell k x line h).1 in absurd cc

  -- what a step makes is told
  pub makes_tell : (k : ℕ) (m : Made Term ℕ) (line : Line Term) → MakesAt setup events k m line → Reported line (Who.Station m.station) m.key m.number
  makes_tell k m line h = by (step_tells k h.world h.event h.after line h.step).0
    where
      longer : (xs : List (Made Term ℕ)) (x : Made Term ℕ) → xs ++ x ∷ [] ≡ xs → ⊥
      longer [] x e = cc
      longer (y ∷ ys) x e = let rest : ys ++ x ∷ [] ≡ ys = cc in longer ys x rest

      last : (xs : List (Made Term ℕ)) (x y : Made Term ℕ) → xs ++ x ∷ [] ≡ xs ++ y ∷ [] → x ≡ y
      last [] x y e = cc
      last (z ∷ zs) x y e = let rest : zs ++ x ∷ [] ≡ zs ++ y ∷ [] = cc in last zs x y rest

      by : MadeIsTold h.world h.after line → Reported line (Who.Station m.station) m.key m.number
      by (inl same) = absurd (longer h.world.made m (sym h.makes ∙ same.0))
      by (inr (n, grows, told)) =
          let one : n ≡ m = last h.world.made n m (sym grows ∙ h.makes) in subst (λ z. Reported line (Who.Station z.station) z.key z.number) one told

  one_key : (x : Took Term ℕ) (m : Made Term ℕ) (l n : Line Term) → Reported l Who.Phone x.key x.number → Reported n (Who.Station m.station) m.key m.number
      → (x.key ≡ m.key) × (x.number ≡ m.number) → TellOneKey l n
  one_key x m l n a b same = (a.0, b.0, a.2, b.2, a.3 ∙ same.0 ∙ sym b.3, a.4 ∙ ap ncc_of same.1 ∙ sym b.4)

  took_it : (x : Took Term ℕ) (m : Made Term ℕ) (came : Came Term ℕ) → ObeysMade x came m → ahead m came < 8 → (x.key ≡ m.key) × (x.number ≡ m.number)
  took_it x m Secured ((key, number, _), _) low = (key, number)
  took_it x m (Commanded before) o low = let same = o.near low in (same.0, same.1)
  took_it x m (Changed before root) o low = let same = o.near low in (same.0, same.1)

  module _ (set : IsSetup setup) (are : AllOf IsEvent events) where
    pub step_completed : (k : ℕ) (w : TheWorld) (e : Event) (u : TheWorld) (line : Line Term)
        → IsStep setup events k w e u line
        → TellsNote u line.who line.note
    step_completed k w e u line is =
        let runs = step_takes setup events k w e u line is in
        let lines = lines_completed annex_b annex_b_ciphers setup (take k events ++ e ∷ []) u
        (ap (written_run setup) (sym (take_more events k e is.event)) ∙ runs) set
        (subst (AllOf IsEvent) (take_more events k e is.event) (each_of_first (suc k) events are)) in
        let here : w ≡ run (written_machine annex_b) start (take k events) =
        still_is_run (open_octets annex_b_terms) (written_machine annex_b) start (take k events) w is.before in
        subst (λ (h : TheWorld × Line Term). TellsNote h.0 h.1.who h.1.note) (sym (step_happens setup events k w e u line is))
        (subst (λ (v : TheWorld). let h = happens (written_machine annex_b) v e in TellsNote h.0 h.1.who h.1.note)
        (sym here) (completed_last start (take k events) e lines))

    pub follows : (k : ℕ) (x : Took Term ℕ) (line : Line Term) → TakesAt setup events k x line → Follows setup events k x line
    follows k x line h =
        let all = agrees annex_b annex_b_ciphers setup (take (suc k) events) h.after
        (step_takes setup events k h.world h.event h.after line h.step) set (each_of_first (suc k) events are) in
        let obeys = all_last (Obeys h.after.made) h.world.took x (subst (AllOf (Obeys h.after.made)) h.takes all.obeyed) in
        let found : made_at h.world.made x.station x.air ≡ Some obeys.0 = ap (λ ms. made_at ms x.station x.air) (sym (none_made k x line h)) ∙ obeys.1 in
        let was = was_made k h.world h.step.before obeys.0 x.station x.air found in record {
          made = obeys.0;
          when = was.0;
          told = was.2;
          makes = was.3;
          earlier = was.1;
          there = made_there h.world.made x.station x.air obeys.0 found;
          obeys = obeys.2;
          near = λ low. one_key x obeys.0 line was.2 (takes_tell k x line h) (makes_tell was.0 obeys.0 was.2 was.3) (took_it x obeys.0 x.came obeys.2 low);
        }
