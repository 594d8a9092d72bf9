-- A station keeps its number, and the stations of a run are those that it began with.
use Rattle.std.proofs.Common.{◌≡◌, refl, sym, ap, ◌∙◌, ℕ, ◌==◌, Bool, true, false, cond, List, [], ◌∷◌, map, Some}
use Rattle.std.proofs.lemmas.Bool.{eqb-true}
use Rattle.lte_events.specs.declared.events.Event.{Event}
use Rattle.key_model.specs.Reading.{Reading}
use Rattle.lte_machine.proofs.{StationCases.station_case, Routing.happens_each}
use Rattle.lte_machine.specs.{Opening.Outcome, StationState.Station, StationState.StationInput, Run.run}
use Rattle.lte_machine.specs.StationStep.{station_row_of, station_key, station_step, station_opens, station_pdu_in}
use Rattle.lte_machine.specs.World.{Machine, World, put_if, put_station, station_of_id, happens}

module _ {K C : Type 0} (r : Reading K C) (s : Station K C) where
  pub station_step_id : (i : StationInput K C) (outcome : Outcome) → (station_step r s i outcome).0.id ≡ s.id
  station_step_id i outcome =
      station_case r s (λ d. d.0.id ≡ s.id)
      (record {
        nothing = λ answer. refl;
        given = λ conn cell caps algs air kenb k. refl;
        released = λ key k. refl;
        taken = λ conn origin pair k. refl;
        by_s1 = λ w pair k. refl;
        by_x2 = λ w star k. refl;
        answered = λ order key k. refl;
        cancelled = λ from key k. refl;
        left = λ key k. refl;
        renewed = λ conn number air count c e kenb k. refl;
      })
      (record {
        nothing = λ answer. refl;
        secured = λ count k. refl;
        opened = λ srb count text k. refl;
        packet = λ drb count text k. refl;
        by_s1 = λ at count k p e. refl;
        within = λ at count origin k p e. refl;
        by_x2 = λ at count number k p e. refl;
      })
      (record {
        nothing = λ answer. refl;
        by_x2 = λ number target cell k c e. refl;
        by_s1 = λ number target cell k c e. refl;
        within = λ number air cell k c e. refl;
        commanded = λ via order count k c e. refl;
        cancelled_x2 = λ conn number target k. refl;
        cancelled_s1 = λ conn number cell k. refl;
        cancelled_within = λ number k. refl;
        asked = λ number k c e. refl;
        packet = λ drb count text k c e. refl;
        text = λ srb count text k c e. refl;
        skipped = λ on n k. refl;
      }) (station_row_of r s i outcome) (station_key i)

-- IN A RUN

abbrev pub ids_of : {K C : Type 0} → List (Station K C) → List ℕ
ids_of stations = map (λ s. s.id) stations

-- a station is put in its own place
put_ids : {K C : Type 0} (id : ℕ) (new : Station K C) → new.id ≡ id → (ss : List (Station K C)) → ids_of (put_station id new ss) ≡ ids_of ss
put_ids id new is [] = refl
put_ids id new is (s ∷ ss) = by (s.id == id) refl (put_ids id new is ss)
  where
    by : (b : Bool) → (s.id == id) ≡ b → ids_of (put_station id new ss) ≡ ids_of ss → (put_if b new s).id ∷ ids_of (put_station id new ss) ≡ s.id ∷ ids_of ss
    by true e rest = λ j. (is ∙ sym (eqb-true s.id id e)) j ∷ rest j
    by false e rest = ap (λ xs. s.id ∷ xs) rest

module _ {K C S : Type 0} (m : Machine K C S) where
  happens_ids : (w : World K C S) (e : Event) → ids_of (happens m w e).0.stations ≡ ids_of w.stations
  happens_ids w =
      happens_each m w (λ done a. ids_of done.0.stations ≡ ids_of w.stations) (λ ksi octets caps. refl) (λ input came turn. refl) (λ input came. refl)
      (λ id input came s there own.
      let outcome = m.opener (station_opens m.reading s input) (station_pdu_in input) came in
      put_ids id (station_step m.reading s input outcome).0 (station_step_id m.reading s input outcome ∙ own) w.stations)
      (λ answer. refl)

  pub run_ids : (w : World K C S) (es : List Event) → ids_of (run m w es).stations ≡ ids_of w.stations
  run_ids w [] = refl
  run_ids w (e ∷ es) = run_ids (happens m w e).0 es ∙ happens_ids w e

-- so a station that was there is there
pub still_here : {K C : Type 0} (id : ℕ) (ts ss : List (Station K C))
    → ids_of ts ≡ ids_of ss
    → (s : Station K C)
    → station_of_id id ss ≡ Some s
    → (t : Station K C) × (station_of_id id ts ≡ Some t)
still_here id [] [] e s f = absurd cc
still_here id [] (x ∷ xs) e s f = absurd cc
still_here id (t ∷ ts) [] e s f = absurd cc
still_here {K = K} {C = C} id (t ∷ ts) (x ∷ xs) e s f =
    let one : t.id ≡ x.id = cc in
    let more : ids_of ts ≡ ids_of xs = cc in
    by (t.id == id) (x.id == id) (ap (λ n. n == id) one) f (still_here id ts xs more)
  where
    by : (a b : Bool)
        → a ≡ b
        → cond b (Some x) (station_of_id id xs) ≡ Some s
        → ((y : Station K C) → station_of_id id xs ≡ Some y → (u : Station K C) × (station_of_id id ts ≡ Some u))
        → (u : Station K C) × (cond a (Some t) (station_of_id id ts) ≡ Some u)
    by true b g h rest = (t, refl)
    by false true g h rest = absurd cc
    by false false g h rest = rest s h
