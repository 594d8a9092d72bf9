-- Where the phone obeyed an order eight or more chain steps ahead, no context of any world of the run, in octets, has that air
-- address.
use Rattle.std.proofs.Common.{◌≡◌, refl, sym, ap, ◌∙◌, subst, ℕ, suc, ◌-◌, ◌<◌, ◌≤◌, arith, Bool, true, false, List, [], ◌∷◌, ◌++◌, take, Option, Some, None, option_map, inl, inr}
use Rattle.std.specs.{Prelude.nat_lt, List.AllByRecursion as AllOf}
use Rattle.std.proofs.{lemmas.Bool.Decides.nat_tests, lemmas.List.take-take}
use Rattle.lte_events.specs.{Ranges.IsEvent, Ranges.IsSetup, declared.events.Event.Event, declared.setups.Setup.Setup}
use Rattle.key_model.specs.{Chain.ncc_of, Term.Term, Value.value_of}
use Rattle.lte_machine.specs.{BothRuns.annex_b_terms, BothRuns.written_run, ByEvent.IsValueOfRun, Carried.map_stations, Ciphers.annex_b, Distinct.Member, Machines.written_machine, Opening.open_octets, Reply.Made, Reply.Took, StationState.Station, StationState.Context, World.Line}
use Rattle.lte_machine.specs.Run.{Running, run, first_world}
use Rattle.lte_machine.specs.StationState as station
use Rattle.lte_machine.proofs.{AnnexB.annex_b_ciphers, StillRun.still_is_run, Worlds.TheWorld}
use Rattle.lte_machine.proofs.EventByEvent.{step_takes, written_still, each_of_first}
use Rattle.lte_properties.specs.Agreement.{is_made_at, made_at, ContextAt, EachStation, IsFar, NoneThere, MadeIsTold, TookIsTold, MadeOnce}
use Rattle.lte_properties.specs.BySteps.{MakesAt, TakesAt}
use Rattle.lte_properties.specs.InOctets.{TakesFar, NoContextAt, FarNeverThere}
use Rattle.lte_properties.proofs.{Agreement.Holds.of_each, EveryRun.agrees, EveryRun.none_ever, StepByStep.step_tells, StepByStep.holds_on}
use Rattle.lte_properties.proofs.Agreement.Later.{found_later, in_front, in_last}

-- IN OCTETS

context_none : (air : ℕ) (o : Option (Context Term ℕ)) → ContextAt air o (λ c. ⊥) → ContextAt air (option_map (station.map_context value_of ncc_of) o) (λ c. ⊥)
context_none air None h = tt
context_none air (Some c) h = h

stations_none : (id air : ℕ) (ss : List (Station Term ℕ)) → AllOf (λ s. s.id ≡ id → ContextAt air s.context (λ c. ⊥)) ss
    → AllOf (λ s. s.id ≡ id → ContextAt air s.context (λ c. ⊥)) (map_stations value_of ncc_of ss)
stations_none id air [] h = tt
stations_none id air (s ∷ ss) h = ((λ e. context_none air s.context (h.0 e)), stations_none id air ss h.1)

-- what is made last is all that is made there
made_last : (P : Made Term ℕ → Type 0) (xs : List (Made Term ℕ)) (x : Made Term ℕ) → AllOf P (xs ++ x ∷ []) → P x
made_last P [] x h = h.0
made_last P (y ∷ ys) x h = made_last P ys x h.1

module _ (setup : Setup) (events : List Event) where
  -- WHAT STAYS

  made_stays : (station air : ℕ) (m : Made Term ℕ) → (w u : TheWorld) (line : Line Term)
      → MadeIsTold w u line
      → made_at w.made station air ≡ Some m
      → made_at u.made station air ≡ Some m
  made_stays station air m w u line (inl same) h = ap (λ ms. made_at ms station air) same.0 ∙ h
  made_stays station air m w u line (inr (n, grows, told)) h =
      ap (λ ms. made_at ms station air) grows ∙ found_later (is_made_at station air) w.made (n ∷ []) m h

  took_stays : (x : Took Term ℕ) → (w u : TheWorld) (line : Line Term) → TookIsTold w u line → Member x w.took → Member x u.took
  took_stays x w u line (inl same) h = subst (Member x) (sym same.0) h
  took_stays x w u line (inr (y, grows, told)) h = subst (Member x) (sym grows) (in_front x w.took (y ∷ []) h)

  module _ (set : IsSetup setup) (are : AllOf IsEvent events) where
    first : (n : ℕ) → AllOf IsEvent (take n events)
    first n = each_of_first n events are

    -- what was made at a step is there in each later world
    made_later : (n : ℕ) (m : Made Term ℕ) (line : Line Term)
        → MakesAt setup events n m line
        → (p : ℕ)
        → n < p
        → (w : TheWorld)
        → written_run setup (take p events) ≡ Running w
        → made_at w.made m.station m.air ≡ Some m
    made_later n m line makes p low w runs =
        let here = step_takes setup events n makes.world makes.event makes.after line makes.step in
        let once : MadeOnce makes.after = (agrees annex_b annex_b_ciphers setup (take (suc n) events) makes.after here set (first (suc n))).made_once in
        let found : made_at makes.after.made m.station m.air ≡ Some m =
        made_last (λ x. made_at makes.after.made x.station x.air ≡ Some x) makes.world.made m
        (subst (AllOf (λ x. made_at makes.after.made x.station x.air ≡ Some x)) makes.makes once) in
        holds_on setup events (λ u. made_at u.made m.station m.air ≡ Some m)
        (λ i v e u l is. made_stays m.station m.air m v u l (step_tells setup events i v e u l is).0)
        (p - suc n) p (suc n) (omega arith) makes.after w here runs found

    took_later : (k : ℕ) (x : Took Term ℕ) (line : Line Term)
        → TakesAt setup events k x line
        → (p : ℕ)
        → k < p
        → (w : TheWorld)
        → written_run setup (take p events) ≡ Running w
        → Member x w.took
    took_later k x line takes p low w runs =
        let here = step_takes setup events k takes.world takes.event takes.after line takes.step in
        holds_on setup events (λ u. Member x u.took) (λ i v e u l is. took_stays x v u l (step_tells setup events i v e u l is).1)
        (p - suc k) p (suc k) (omega arith) takes.after w here runs (subst (Member x) (sym takes.takes) (in_last x takes.world.took))

    -- NO CONTEXT

    module _ (x : Took Term ℕ) (h : TakesFar setup events x) where
      -- by the world after the order, or by a later one
      by_later : (p n : ℕ)
          → n ≤ p
          → h.step < p
          → (w v : TheWorld)
          → written_run setup (take n events) ≡ Running w
          → written_run setup (take p events) ≡ Running v
          → EachStation w x.station (λ s. ContextAt x.air s.context (λ c. ⊥))
      by_later p n low after w v runs ends =
          let way : take n (take p events) ≡ take n events = take-take n p events low in
          let none = none_ever annex_b annex_b_ciphers setup (take p events) v ends set (first p) n in
          let here = still_is_run (open_octets annex_b_terms) (written_machine annex_b) (first_world setup)
          (take n (take p events)) w (ap (written_run setup) way ∙ runs) in
          let there = still_is_run (open_octets annex_b_terms) (written_machine annex_b) (first_world setup) (take p events) v ends in
          let apart : NoneThere w v = subst (λ (a : TheWorld). NoneThere w a) (sym there)
          (subst (λ (a : TheWorld). NoneThere a (run (written_machine annex_b) (first_world setup) (take p events)))
          (sym here) none) in
          let found : made_at v.made x.station x.air ≡ Some h.made =
          (λ j. made_at v.made (sym h.there.0 j) (sym h.there.1 j)) ∙ made_later h.when h.made h.line h.makes p (omega (arith, after, h.earlier)) v ends in
          of_each (λ y. IsFar v.made y → EachStation w y.station (λ s. ContextAt y.air s.context (λ c. ⊥))) v.took x apart
          (took_later h.step x h.told h.takes p after v ends) (h.made, found, h.far)

      none_at : (n : ℕ) (w : TheWorld) → written_run setup (take n events) ≡ Running w → EachStation w x.station (λ s. ContextAt x.air s.context (λ c. ⊥))
      none_at n w runs = by (nat_lt h.step n) refl
        where
          by : (b : Bool) → nat_lt h.step n ≡ b → EachStation w x.station (λ s. ContextAt x.air s.context (λ c. ⊥))
          by true e = by_later n n (omega arith) (grind (arith, nat_tests)) w w runs runs
          by false e =
              by_later (suc h.step) n (grind (arith, nat_tests)) (omega arith) w h.takes.after runs
              (step_takes setup events h.step h.takes.world h.takes.event h.takes.after h.told h.takes.step)

    pub far_never : FarNeverThere setup events
    far_never x h n u runs =
        let is : IsValueOfRun setup (take n events) u = written_still setup (take n events) set (first n) u runs in
        subst (NoContextAt x.station x.air) (sym is.value) (stations_none x.station x.air is.world.stations (none_at x h n is.world is.runs))
