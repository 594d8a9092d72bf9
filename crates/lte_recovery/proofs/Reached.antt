-- What every run has of the premises: cells, numbers, and one choice of NAS keys for a KASME.
use Rattle.std.proofs.Common.{◌≡◌, refl, sym, ap, ◌∙◌, subst, ℕ, ◌<◌, ◌≤◌, Bool, true, false, cond, List, [], ◌∷◌, Option, Some, None}
use Rattle.std.specs.{Prelude.◌==◌, List.AllByRecursion as AllOf}
use Rattle.alg_choice.specs.Algs.{eia2_identity}
use Rattle.nas_guard.specs.Keys.{Keys}
use Rattle.key_model.specs.{Term.Term, Term.Root, Term.Alg, Value.value_of, Value.same_value}
use Rattle.lte_events.specs.{Ranges.IsEvent, Ranges.IsSetup, declared.events.Event.Event, declared.setups.Setup.Setup}
use Rattle.lte_machine.specs.{BothRuns.annex_b_terms, CoreState.CoreContext, Opening.open_octets, PhoneState.NasContext, Run.first_world, Run.stations_of, Standing.RunsTo, StationState.Station}
use Rattle.lte_machine.specs.{Ciphers.annex_b, Ciphers.octets_of, World.next_root, World.station_of_id}
use Rattle.lte_machine.specs.Machines.{sender_of, written_in_values}
use Rattle.lte_machine.proofs.{AnnexB.annex_b_ciphers, AnnexB.under_keys_ciphers, CipherLaws.AreCiphers, KnownWorld.first_grounds, Mixed.by_terms, MixedRun.run_by_terms}
use Rattle.lte_properties.proofs.{Agreement.Ghost.StationOk, Agreement.World.ghost, Agreement.Openings.OpensByTerms, ChainNumbers.World.first_holds, Opening.Sender.roots_along, SameKeys.reflexive}
use Rattle.lte_properties.proofs.Agreement.Holds.{cells_of, no_conns, first_ok}
use Rattle.lte_properties.proofs.Agreement.Whole.{honest_along, settled_from_first, calm_over}
use Rattle.lte_properties.proofs.Opening.Nas.{Choices, RootHas, ContextOk, PhoneContextOk, CoreContextOk, one_choice, nas_keys}
use Rattle.lte_properties.proofs.Opening.Whole.{Stands, run_stands, first_stands}
use Rattle.lte_recovery.specs.Reconnection.{TheWorld}
use Rattle.lte_recovery.proofs.{Newer.run_below, Newer.first_below}
use Rattle.lte_recovery.proofs.Least.{least}

-- what is so of each station is so of the one of this number
found_is : (P : Station Term ℕ → Type 0) (id : ℕ) (ss : List (Station Term ℕ)) (s : Station Term ℕ) → AllOf P ss → station_of_id id ss ≡ Some s → P s
found_is P id [] s h e = absurd cc
found_is P id (z ∷ zs) s h e = by (z.id == id) e (λ f. found_is P id zs s h.1 f)
  where
    by : (b : Bool) → cond b (Some z) (station_of_id id zs) ≡ Some s → (station_of_id id zs ≡ Some s → P s) → P s
    by true f rest = let one : z ≡ s = cc in subst P one h.0
    by false f rest = rest f

-- before the first event no station saw any
first_of : (setup : Setup) → IsSetup setup → AllOf (λ (s : Station Term ℕ). s.last < (no_conns setup).next) (stations_of {K = Term} {C = ℕ} setup.cells setup.stations)
first_of setup set =
    subst (λ n. AllOf (λ (s : Station Term ℕ). s.last < n) (stations_of {K = Term} {C = ℕ} setup.cells setup.stations)) (first_ok setup set).core.1
    (first_below setup.core_first set.core_first.0 setup.cells setup.stations)

module _ (setup : Setup) (events : List Event) (set : IsSetup setup) (are : AllOf IsEvent events) (w : TheWorld) (is : RunsTo annex_b setup events w) where
  pub good : AreCiphers annex_b_terms
  good = under_keys_ciphers value_of annex_b annex_b_ciphers

  abbrev by_values : OpensByTerms annex_b_terms (by_terms annex_b_terms)
  by_values = ((λ u e pdu came. refl), (same_value, λ u e pdu came. refl))

  -- both invariants hold in the world
  pub stands : Stands setup.cells w
  stands =
      subst (Stands setup.cells)
      (sym (run_by_terms annex_b_terms written_in_values (open_octets annex_b_terms) setup events w is))
      (run_stands same_value sender_of (by_terms annex_b_terms) annex_b_terms good written_in_values setup.cells (cells_of setup set) (λ conn. 0) (first_world setup)
      events (first_holds setup) (first_stands setup set) are
      (settled_from_first same_value reflexive (octets_of annex_b_terms written_in_values) sender_of (by_terms annex_b_terms) setup set events are)
      (honest_along same_value Root (octets_of annex_b_terms written_in_values) sender_of (by_terms annex_b_terms) annex_b_terms by_values (first_world setup) events)
      (calm_over same_value reflexive annex_b_terms good written_in_values (by_terms annex_b_terms) by_values setup set events are)
      (roots_along annex_b_terms written_in_values (open_octets annex_b_terms) (first_world setup) events w (first_grounds setup) refl is))

  -- CELLS
  pub core_cells : w.core.cells ≡ setup.cells
  core_cells = stands.agrees.core.2

  -- ONE CHOICE of NAS keys for a KASME
  phone_context : (o : Option (NasContext Term)) (g : Choices) (n : ℕ) (c : NasContext Term) → PhoneContextOk g n o → o ≡ Some c → ContextOk g n c
  phone_context None g n c h e = absurd cc
  phone_context (Some d) g n c h e = let one : d ≡ c = cc in subst (ContextOk g n) one h

  core_context : (o : Option (CoreContext Term)) (g : Choices) (n : ℕ) (c : CoreContext Term) → CoreContextOk g n o → o ≡ Some c → ContextOk g n c.nas
  core_context None g n c h e = absurd cc
  core_context (Some d) g n c h e = let one : d ≡ c = cc in subst (λ (x : CoreContext Term). ContextOk g n x.nas) one h

  pub same_keys : (p : NasContext Term) (k : CoreContext Term) → w.phone.context ≡ Some p → w.core.context ≡ Some k → k.nas.root ≡ p.root → k.nas.keys ≡ p.keys
  same_keys p k at_phone at_core root =
      let g = stands.choices in
      let ok = stands.packets in
      let a = phone_context w.phone.context g (next_root w) p ok.phone.1 at_phone in
      let b = core_context w.core.context g (next_root w) k ok.core.2 at_core in
      let algs : k.nas.keys.algs ≡ p.keys.algs =
      one_choice g (next_root w) p.root k.nas.keys.algs p.keys.algs (subst (λ t. RootHas g (next_root w) t k.nas.keys.algs) root b.0) a.0 in
      b.1 ∙ (λ j. nas_keys (root j) (algs j)) ∙ sym a.1

  -- the COUNT that the core expects is not above the phone's next one
  pub in_order : (p : NasContext Term) (k : CoreContext Term) → w.phone.context ≡ Some p → w.core.context ≡ Some k → k.nas.root ≡ p.root → k.nas.receive ≤ p.send
  in_order p k at_phone at_core root =
      let b = core_context w.core.context stands.choices (next_root w) k stands.packets.core.2 at_core in
      least setup events w is p k at_phone at_core root (ap (λ (x : Keys Term). x.int) b.1 ∙ ap (λ t. Alg t 2 eia2_identity) root)

  -- the station of a cell knows it as its own, and has its numbers in range
  pub station_ok : (id : ℕ) (s : Station Term ℕ) → station_of_id id w.stations ≡ Some s → (s.cells ≡ setup.cells) × (s.id ≤ 7) × (1 ≤ s.next)
  station_ok id s there =
      let ok = found_is (StationOk setup.cells (ghost stands.conns w)) id w.stations s stands.agrees.stations there in (ok.cells, ok.id, ok.next)

  -- THE CORE'S NEXT NUMBER is above all that a station saw
  pub all_below : AllOf (λ s. s.last < w.core.next) w.stations
  all_below =
      subst (λ (v : TheWorld). AllOf (λ s. s.last < v.core.next) v.stations)
      (sym (run_by_terms annex_b_terms written_in_values (open_octets annex_b_terms) setup events w is))
      (run_below same_value sender_of (by_terms annex_b_terms) annex_b_terms good written_in_values setup.cells (cells_of setup set) (λ conn. 0)
      (no_conns setup) (first_world setup) events (first_holds setup) (first_ok setup set)
      (first_of setup set)
      are
      (settled_from_first same_value reflexive (octets_of annex_b_terms written_in_values) sender_of (by_terms annex_b_terms) setup set events are)
      (honest_along same_value Root (octets_of annex_b_terms written_in_values) sender_of (by_terms annex_b_terms) annex_b_terms by_values (first_world setup) events)
      (calm_over same_value reflexive annex_b_terms good written_in_values (by_terms annex_b_terms) by_values setup set events are))

  pub newer_than : (id : ℕ) (s : Station Term ℕ) → station_of_id id w.stations ≡ Some s → s.last < w.core.next
  newer_than id s there = found_is (λ t. t.last < w.core.next) id w.stations s all_below there
