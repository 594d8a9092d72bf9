-- Every world of every run in octets: each derivation can be added, and each key that was held was made.
use Rattle.std.proofs.Common.{◌≡◌, refl, sym, ap, subst, ◌∙◌, ℕ, Bool, true, false, List, [], ◌∷◌, ◌++◌, map, inl, inr, append_assoc, append-nil}
use Rattle.std.specs.{Prelude.◌||◌, List.list_any, List.AllByRecursion as AllOf, Str.bytes_eq}
use Rattle.std.proofs.lemmas.Slice.Eq.{bytes_eq-Decides}
use Rattle.lte_events.specs.{Ranges.IsEvent, Ranges.IsSetup, declared.events.Event.Event, declared.setups.Setup.Setup}
use Rattle.key_model.specs.{Chain.ncc_of, Term.Term, Term.Root, Value.value_of, Value.same_value}
use Rattle.lte_machine.specs.{Wire.Outgoing, BothRuns.octet_run, Ciphers.annex_b, Ciphers.under_keys, Distinct.keys_of, Distinct.Member, Opening.open_octets}
use Rattle.lte_machine.specs.Carried.{map_holding, map_world, run_value}
use Rattle.lte_machine.specs.Ladder.{RowOrigin, OfRoot, Of, map_row, row_key}
use Rattle.lte_machine.specs.Machines.{Kept, machine_in_octets, opening_by_octets, written_in_values, kept_in_values}
use Rattle.lte_machine.specs.Run.{RunState, Running, Stopped, run, replay, first_world}
use Rattle.lte_machine.specs.World.{Machine, World, Holding, happens}
use Rattle.lte_machine.proofs.{InOctets.agree, InOctets.open_octets-map, RangeHolds.Ranged, RangeWorld.ranged_keeps, RangeWorld.first_ranged, ReplayMap.replay-map, StillRun.still_is_run, StillRun.still_one, WorldMap.happens-map}
use Rattle.lte_machine.proofs.KnownWorld.{Grounds, happens_grounds, first_grounds}
use Rattle.lte_machine.proofs.WholeRun.{first_value, ranged_back, ranged_keeps_back}
use Rattle.lte_properties.proofs.KeySeparation.Ever.{separation_holds_in_octets}
use Rattle.store_laws.specs.Additions.{IsMadeIn, CanKeep}
use Rattle.store_laws.proofs.Adding.{valued}
use Rattle.store_laws.proofs.Keeping.{CanAll, WellKeys, happens_can}

-- the machine over terms that opens by octets
abbrev m : Machine Term ℕ (Outgoing Term ℕ)
m = opening_by_octets same_value (under_keys value_of annex_b) written_in_values

abbrev q : Machine (List ℕ) ℕ Kept
q = machine_in_octets annex_b

-- what holds of its worlds
pub record Good (w : World Term ℕ (Outgoing Term ℕ)) : Type 0 where
  pub grounds : Grounds w
  pub ranged : Ranged w
  pub can : CanAll w.history

well_keys : (setup : Setup) (events : List Event) → WellKeys (run m (first_world setup) events).history
well_keys setup events t member =
    let separates = separation_holds_in_octets same_value (under_keys value_of annex_b) written_in_values setup events in
    separates.well_formed t (separates.all_held t member)

pub run_more : (w : World Term ℕ (Outgoing Term ℕ)) (es : List Event) (e : Event) → run m w (es ++ e ∷ []) ≡ (happens m (run m w es) e).0
run_more w [] e = refl
run_more w (x ∷ es) e = run_more (happens m w x).0 es e

happens_good : (w : World Term ℕ (Outgoing Term ℕ)) (e : Event) → IsEvent e → WellKeys (happens m w e).0.history → Good w → Good (happens m w e).0
happens_good w e is well g = record {
  grounds = happens_grounds Root m.octets m.sender m.opener w e g.grounds;
  ranged = ranged_keeps same_value Root m.octets m.sender m.opener w e is g.ranged;
  can = happens_can Root m.octets m.sender m.opener w g.grounds g.ranged g.can e is well;
}

first_good : (setup : Setup) → IsSetup setup → Good (first_world setup)
first_good setup is = record { grounds = first_grounds setup; ranged = first_ranged setup is; can = tt }

-- one event after the other
good_from : (setup : Setup) (before es : List Event)
    → AllOf IsEvent es
    → Good (run m (first_world setup) before)
    → Good (run m (first_world setup) (before ++ es))
good_from setup before [] are g = subst (λ l. Good (run m (first_world setup) l)) (sym (append-nil before)) g
good_from setup before (e ∷ es) are g =
    let more = run_more (first_world setup) before e in
    let well : WellKeys (happens m (run m (first_world setup) before) e).0.history =
    subst (λ w. WellKeys w.history) more (well_keys setup (before ++ e ∷ [])) in
    let next : Good (run m (first_world setup) (before ++ e ∷ [])) = subst Good (sym more) (happens_good (run m (first_world setup) before) e are.0 well g) in
    subst (λ l. Good (run m (first_world setup) l)) (append_assoc before (e ∷ []) es) (good_from setup (before ++ e ∷ []) es are.1 next)

pub run_good : (setup : Setup) (es : List Event) → IsSetup setup → AllOf IsEvent es → Good (run m (first_world setup) es)
run_good setup es is are = good_from setup [] es are (first_good setup is)

-- IN OCTETS

key_value : (o : RowOrigin Term) → row_key (map_row value_of o) ≡ value_of (row_key o)
key_value (OfRoot key) = refl
key_value (Of d) = refl

made_in : (t : Term) (history : List (RowOrigin Term)) → Member t (keys_of history) → IsMadeIn (valued history) (value_of t)
made_in t [] h = absurd h
made_in t (o ∷ os) (inl e) =
    let same : bytes_eq (row_key (map_row value_of o)) (value_of t) ≡ true =
    (bytes_eq-Decides (row_key (map_row value_of o)) (value_of t)).1 (key_value o ∙ ap value_of (sym e)) in
    ap (λ b. b || list_any (λ x. bytes_eq (row_key x) (value_of t)) (valued os)) same
made_in t (o ∷ os) (inr h) = or_true (bytes_eq (row_key (map_row value_of o)) (value_of t)) (made_in t os h)
  where
    or_true : (b : Bool) {c : Bool} → c ≡ true → (b || c) ≡ true
    or_true true h = refl
    or_true false h = h

held_made : (w : World Term ℕ (Outgoing Term ℕ)) (held : List (Holding Term))
    → AllOf (λ h. Member h.key (keys_of w.history)) held
    → AllOf (λ h. IsMadeIn (valued w.history) h.key) (map (map_holding value_of) held)
held_made w [] a = tt
held_made w (h ∷ held) a = (made_in h.key w.history a.0, held_made w held a.1)

abbrev octets_of_world : World Term ℕ (Outgoing Term ℕ) → World (List ℕ) ℕ Kept
octets_of_world w = map_world value_of ncc_of (kept_in_values annex_b) w

pub good_keeps : (w : World Term ℕ (Outgoing Term ℕ)) → Good w → CanKeep (octets_of_world w)
good_keeps w g = record { history = g.can; held = held_made w w.held g.grounds.keys.held }

-- the world in octets that a run comes to is the value of one
pub comes_from : (setup : Setup) (events : List Event) (w : World (List ℕ) ℕ Kept)
    → IsSetup setup
    → AllOf IsEvent events
    → octet_run setup events ≡ Running w
    → w ≡ octets_of_world (run m (first_world setup) events)
comes_from setup events w is are e = by (replay (open_octets (under_keys value_of annex_b)) m (Running (first_world setup)) events) refl
  where
    carried : run_value annex_b (replay (open_octets (under_keys value_of annex_b)) m (Running (first_world setup)) events) ≡ octet_run setup events
    carried =
        replay-map m q value_of ncc_of (kept_in_values annex_b) (agree annex_b)
        (open_octets (under_keys value_of annex_b)) (open_octets annex_b) (open_octets-map value_of annex_b) Ranged
        (ranged_keeps_back annex_b) (Running (first_world setup)) events are (first_ranged setup is)
        ∙ ap (λ r. replay (open_octets annex_b) q r events) (first_value annex_b setup)

    by : (r : RunState Term ℕ (Outgoing Term ℕ))
        → replay (open_octets (under_keys value_of annex_b)) m (Running (first_world setup)) events ≡ r
        → w ≡ octets_of_world (run m (first_world setup) events)
    by (Running u) s =
        let plain : u ≡ run m (first_world setup) events = still_is_run (open_octets (under_keys value_of annex_b)) m (first_world setup) events u s in
        let same : Running (octets_of_world u) ≡ Running w = ap (run_value annex_b) (sym s) ∙ carried ∙ e in
        sym (still_one same) ∙ ap octets_of_world plain
    by (Stopped coincidence) s =
        let bad : run_value annex_b (Stopped coincidence) ≡ Running w = ap (run_value annex_b) (sym s) ∙ carried ∙ e in
        absurd (over bad)
      where
        over : run_value annex_b (Stopped coincidence) ≡ Running w → ⊥
        over bad = cc

module _ (setup : Setup) (events : List Event) (w : World (List ℕ) ℕ Kept) (is : IsSetup setup)
    (are : AllOf IsEvent events) (e : octet_run setup events ≡ Running w) where
  -- the world
  pub world_keeps : CanKeep w
  world_keeps = subst CanKeep (sym (comes_from setup events w is are e)) (good_keeps (run m (first_world setup) events) (run_good setup events is are))

  -- and what an event makes of it, also where that is a coincidence
  pub event_keeps : (event : Event) → IsEvent event → CanKeep (happens q w event).0
  event_keeps event good =
      let u = run m (first_world setup) events in
      let g = run_good setup events is are in
      let well : WellKeys (happens m u event).0.history = subst (λ x. WellKeys x.history)
      (run_more (first_world setup) events event) (well_keys setup (events ++ event ∷ [])) in
      let told = happens-map m q value_of ncc_of (kept_in_values annex_b) (agree annex_b) u event (ranged_back annex_b u event g.ranged) in
      let after : octets_of_world (happens m u event).0 ≡ (happens q w event).0 =
      ap (λ t. t.0) told ∙ ap (λ x. (happens q x event).0) (sym (comes_from setup events w is are e)) in
      subst CanKeep after (good_keeps (happens m u event).0 (happens_good u event good well g))
