-- What is read from a world is what its run says; and what the headline says of it.
use Rattle.std.proofs.Common.{◌≡◌, refl, sym, ap, ◌∙◌, subst, ℕ, zero, suc, ◌==◌, Bool, true, false, List, [], ◌∷◌, length, map, cond, option_map, Option, Some, None}
use Rattle.std.proofs.lemmas.List.{length-map}
use Rattle.std.specs.{Prelude.slice_get, Prelude.is_some, List.AllByRecursion as AllOf}
use Rattle.rec_base.specs.declared.uses.Use.{Use}
use Rattle.lte_events.specs.Ranges.{has_station, IsEvent, IsSetup}
use Rattle.lte_events.specs.{declared.events.Event.Event, declared.lines.Who.Who, declared.setups.Setup.Setup}
use Rattle.key_terms.specs.declared.proof.Proof.{Proof}
use Rattle.ue_context.specs.Step.{kenb_of}
use Rattle.lte_machine.specs.{BothRuns.octet_run, Calls.use_out, Calls.use_in, Machines.Kept, StationState.Station, StationState.Context, Wire.KeyUse, World.World, World.station_of_id}
use Rattle.lte_machine.specs.Run.{RunState, Running, Stopped}
use Rattle.lte_machine.proofs.{EventByEvent.written_still, Routing.found_id}
use Rattle.lte_properties.specs.Agreement.{ContextAt, Agree, JoinedBy, JoinedAgree}
use Rattle.lte_properties.specs.Freshness.{NoUseTwice}
use Rattle.lte_properties.proofs.OctetLaws.{uses_octets, joined_octets}
use Rattle.store_laws.specs.{Records.view_of, Records.world_uses, Rows.world_rows}
use Rattle.lte_world.specs.{InOctets.NoTwoEqual, InOctets.IsJoined, Systems.Actors, Systems.Are}
use Rattle.lte_world.specs.Whole.{Whole, unless_over, run_of, InRun, Goes, Stands, context_kenb, phone_kenb_in, station_kenb_in, core_station_in, actor_air, address_of}
use Rattle.lte_world.proofs.StationsStand.{stations_stand}

-- LISTS OF USES

got_of_map : (xs : List (KeyUse (List ℕ))) (k : ℕ) (u : Use) → slice_get (map use_out xs) k ≡ Some u → slice_get xs k ≡ Some (use_in u)
got_of_map [] k u e = absurd cc
got_of_map (x ∷ xs) zero u e = let one : use_out x ≡ u = cc in ap (λ y. Some (use_in y)) one
got_of_map (x ∷ xs) (suc k) u e = got_of_map xs k u e

no_two : (xs : List (KeyUse (List ℕ))) → NoUseTwice xs → NoTwoEqual (map use_out xs)
no_two xs h i j u e f = h i j (use_in u) (got_of_map xs i u e) (got_of_map xs j u f)

-- PHONE AND STATION

all_found : (P : Station (List ℕ) ℕ → Type 0) (id : ℕ) (ss : List (Station (List ℕ) ℕ)) (s : Station (List ℕ) ℕ)
    → AllOf P ss
    → station_of_id id ss ≡ Some s
    → P s
all_found P id [] s h e = absurd cc
all_found P id (t ∷ ts) s h e = by (t.id == id) e (all_found P id ts s h.1)
  where
    by : (b : Bool) → cond b (Some t) (station_of_id id ts) ≡ Some s → (station_of_id id ts ≡ Some s → P s) → P s
    by true f rest = let same : t ≡ s = cc in subst P same h.0
    by false f rest = rest f

same_kenb : (id : ℕ) (w : World (List ℕ) ℕ Kept) → JoinedAgree w → IsJoined id w → station_kenb_in id w ≡ phone_kenb_in w
same_kenb id w agree j =
    let at = subst (JoinedBy w) j.connected agree in
    let number : j.station.id ≡ j.link.station = found_id id w.stations j.station j.stands ∙ sym j.there in
    let there = all_found (λ s. s.id ≡ j.link.station → ContextAt j.link.air s.context (Agree j.link)) id w.stations j.station at j.stands number in
    let both = subst (λ (o : Option (Context (List ℕ) ℕ)). ContextAt j.link.air o (Agree j.link)) j.serves there j.air in
    ap context_kenb j.stands ∙ ap (option_map (λ (c : Context (List ℕ) ℕ). c.key.kenb)) j.serves ∙ ap (λ k. Some k) (sym both.0) ∙ ap kenb_of (sym j.connected)

-- A STATION OF NO SETUP

none_if : (o : Option (Station (List ℕ) ℕ)) → is_some o ≡ false → o ≡ None
none_if None e = refl
none_if (Some s) e = absurd cc

-- A WORLD

module _ (setup : Setup) (journal : List Event) (over : Option Proof) (ready : Bool) (a : Actors)
    (stands : Stands over (octet_run setup journal) a (length journal))
    (v : Whole) (view : record { setup = setup; journal = journal; over = over; ready = ready } ≡ v) where
  -- what holds of each world with these actors that the run is in holds in the run
  pub reads : (P : World (List ℕ) ℕ Kept → Type 0) → ((w : World (List ℕ) ℕ Kept) → octet_run setup journal ≡ Running w → Are w a → P w) → InRun P (run_of v)
  reads P holds = subst (λ x. InRun P (run_of x)) view (by over stands (octet_run setup journal) refl)
    where
      by_run : (r : RunState (List ℕ) ℕ Kept) → octet_run setup journal ≡ r → Goes r a (length journal) → InRun P r
      by_run (Running w) is goes = holds w is goes.0
      by_run (Stopped coincidence) is goes = absurd goes

      by : (o : Option Proof)
          → Stands o (octet_run setup journal) a (length journal)
          → (r : RunState (List ℕ) ℕ Kept)
          → octet_run setup journal ≡ r
          → InRun P (unless_over o (octet_run setup journal))
      by None st r is = by_run (octet_run setup journal) refl st
      by (Some proof) st r is = tt

  -- and where no coincidence ended it there is one
  pub there_is : v.over ≡ None → (w : World (List ℕ) ℕ Kept) × (octet_run setup journal ≡ Running w) × Are w a
  there_is none =
      by_run (octet_run setup journal) refl
      (subst (λ o. Stands o (octet_run setup journal) a (length journal)) (ap (λ x. x.over) view ∙ none) stands)
    where
      by_run : (r : RunState (List ℕ) ℕ Kept)
          → octet_run setup journal ≡ r
          → Goes r a (length journal)
          → (w : World (List ℕ) ℕ Kept) × (octet_run setup journal ≡ Running w) × Are w a
      by_run (Running w) is goes = (w, is, goes.0)
      by_run (Stopped coincidence) is goes = absurd goes

  pub rows_read : (P : World (List ℕ) ℕ Kept → Type 0) → ((w : World (List ℕ) ℕ Kept) → a.stores.rows ≡ world_rows w → P w) → InRun P (run_of v)
  rows_read P f = reads P (λ w is are. f w are.stores.rows.are)

  pub uses_read : (P : World (List ℕ) ℕ Kept → Type 0) → ((w : World (List ℕ) ℕ Kept) → a.stores.uses ≡ world_uses w → P w) → InRun P (run_of v)
  uses_read P f = reads P (λ w is are. f w are.stores.uses)

  pub records_read : (n : ℕ) → n ≡ length a.stores.records → InRun (λ w. n ≡ length w.sent) (run_of v)
  records_read n is = reads (λ w. n ≡ length w.sent) (λ w runs are. is ∙ ap length are.stores.records ∙ length-map w.sent view_of)

  pub phone_read : (r : Option (List ℕ)) → r ≡ kenb_of a.phone.radio → InRun (λ w. r ≡ phone_kenb_in w) (run_of v)
  phone_read r is = reads (λ w. r ≡ phone_kenb_in w) (λ w runs are. is ∙ ap (λ p. kenb_of p.radio) are.phone)

  pub core_read : (r : Option ℕ) → r ≡ option_map (λ l. l.station) a.core.link → InRun (λ w. r ≡ core_station_in w) (run_of v)
  core_read r is = reads (λ w. r ≡ core_station_in w) (λ w runs are. is ∙ ap (λ c. option_map (λ l. l.station) c.link) are.core)

  pub air_read : (who : Who) (r : Option (ℕ × ℕ)) → r ≡ actor_air a.phone.radio a.stations who → InRun (λ w. r ≡ address_of w who) (run_of v)
  air_read who r is = reads (λ w. r ≡ address_of w who) (λ w runs are. is ∙ (λ j. actor_air (are.phone j).radio (are.stations j) who))

  module _ (id : ℕ) (r : Option (List ℕ)) (is : r ≡ context_kenb (station_of_id id a.stations)) where
    station_is : (w : World (List ℕ) ℕ Kept) → Are w a → r ≡ station_kenb_in id w
    station_is w are = is ∙ ap (λ ss. context_kenb (station_of_id id ss)) are.stations

    pub station_read : InRun (λ w. r ≡ station_kenb_in id w) (run_of v)
    station_read = reads (λ w. r ≡ station_kenb_in id w) (λ w runs are. station_is w are)

    pub elsewhere : v.over ≡ None → has_station v.setup.stations id ≡ false → r ≡ None
    elsewhere none apart =
        let h = there_is none in
        let stand : is_some (station_of_id id h.0.stations) ≡ false =
        stations_stand setup journal h.0 h.1 id ∙ ap (λ x. has_station x.setup.stations id) view ∙ apart in
        station_is h.0 h.2 ∙ ap context_kenb (none_if (station_of_id id h.0.stations) stand)

  module _ (set : IsSetup setup) (are : AllOf IsEvent journal) where
    pub differ : (uses : List Use) → uses ≡ a.stores.uses → v.over ≡ None → NoTwoEqual uses
    differ uses is none =
        let h = there_is none in
        subst NoTwoEqual (sym (is ∙ h.2.stores.uses)) (no_two h.0.uses (uses_octets setup journal h.0 (written_still setup journal set are h.0 h.1)))

    pub joined : (id : ℕ) (r : Option (List ℕ)) → r ≡ context_kenb (station_of_id id a.stations) → InRun (λ w. IsJoined id w → r ≡ phone_kenb_in w) (run_of v)
    joined id r is = reads (λ w. IsJoined id w → r ≡ phone_kenb_in w)
        (λ w runs fits at. station_is id r is w fits ∙ same_kenb id w (joined_octets setup journal w (written_still setup journal set are w runs) set are) at)
