-- What stands at each place of the acts.
use Rattle.std.proofs.Common.{◌≡◌, ℕ, zero, suc, ◌+◌, ◌*◌, ◌<◌, List, ◌++◌, length, Some, refl, ap, sym, ◌∙◌, arith, length-append}
use Rattle.std.specs.List.{slice_get}
use Rattle.std.proofs.{lemmas.List.get_or-append-add, lemmas.Option.slice_get-get_or, lemmas.Option.slice_get_within}
use Rattle.rec_base.specs.declared.bearers.Bearer.TheVariants.{Drb1}
use Rattle.lte_events.specs.declared.acts.StationAct.TheVariants as station
use Rattle.lte_events.specs.{declared.events.Event.Event, declared.setups.Setup.Setup}
use Rattle.item_outcomes.specs.Probe.{text_down}
use Rattle.item_probe.specs.Acts.{AreInPlace, OfStation, StandsAt, acts_of, at_station, begins, behind, connects, other_cell, own_cell}

-- behind a list
stands : (events more : List Event) (k at : ℕ) (e : Event) → at ≡ length events + k → slice_get more k ≡ Some e → StandsAt (events ++ more) at e
stands events more k at e place is =
    let within = slice_get_within more k e is in
    let long = length-append events more in
    ap (slice_get (events ++ more)) place
    ∙ slice_get-get_or (events ++ more) (length events + k) e (omega arith)
    ∙ ap Some (get_or-append-add events more k e)
    ∙ sym (slice_get-get_or more k e within)
    ∙ is

-- what is so of each of eight
each : (P : ℕ → Type 0) → P 0 → P 1 → P 2 → P 3 → P 4 → P 5 → P 6 → P 7 → (n : ℕ) → n < 8 → P n
each P a b c d e f g h zero low = a
each P a b c d e f g h (suc zero) low = b
each P a b c d e f g h (suc (suc zero)) low = c
each P a b c d e f g h (suc (suc (suc zero))) low = d
each P a b c d e f g h (suc (suc (suc (suc zero)))) low = e
each P a b c d e f g h (suc (suc (suc (suc (suc zero))))) low = f
each P a b c d e f g h (suc (suc (suc (suc (suc (suc zero)))))) low = g
each P a b c d e f g h (suc (suc (suc (suc (suc (suc (suc zero))))))) low = h
each P a b c d e f g h (suc (suc (suc (suc (suc (suc (suc (suc n)))))))) low = absurd (omega arith)

-- an act of each station
stands_each : (setup : Setup) (events : List Event) (first : ℕ) (e : ℕ → Event) →
    ((id : ℕ) → id < 8 → slice_get (behind setup) (first + 3 * id) ≡ Some (e id)) → (id at : ℕ) → at ≡ length events + (first + 3 * id) →
    id < 8 → StandsAt (acts_of setup events) at (e id)
stands_each setup events first e are id at place low = stands events (behind setup) (first + 3 * id) at (e id) place (are id low)

of_station : (setup : Setup) (events : List Event) (id : ℕ) → id < 8 → OfStation setup (length events) (acts_of setup events) id
of_station setup events id low = record {
  commands = stands_each setup events 2 (λ id. at_station setup id station.Command) (each _ refl refl refl refl refl refl refl refl) id _ (omega arith) low;
  asks = stands_each setup events 3 (λ id. at_station setup id station.Ask) (each _ refl refl refl refl refl refl refl refl) id _ (omega arith) low;
  cancels = stands_each setup events 4 (λ id. at_station setup id station.Cancel) (each _ refl refl refl refl refl refl refl refl) id _ (omega arith) low;
  sends =
      stands_each setup events 31 (λ id. at_station setup id (station.SendUser Drb1 text_down)) (each _ refl refl refl refl refl refl refl refl) id _
      (omega arith) low;
  hands_over =
      stands_each setup events 32 (λ id. begins setup id (own_cell setup.cells id) (other_cell setup.cells id))
      (each _ refl refl refl refl refl refl refl refl) id _ (omega arith) low;
  is_given =
      stands_each setup events 33 (λ id. connects (own_cell setup.cells id)) (each _ refl refl refl refl refl refl refl refl) id _ (omega arith) low;
}

pub are_in_place : (setup : Setup) (events : List Event) → AreInPlace setup (length events) (acts_of setup events)
are_in_place setup events = record {
  resends = stands events (behind setup) 0 _ _ (omega arith) refl;
  asks = stands events (behind setup) 1 _ _ (omega arith) refl;
  up = stands events (behind setup) 26 _ _ (omega arith) refl;
  again = stands events (behind setup) 27 _ _ (omega arith) refl;
  nas_up = stands events (behind setup) 28 _ _ (omega arith) refl;
  nas_down = stands events (behind setup) 29 _ _ (omega arith) refl;
  idle = stands events (behind setup) 30 _ _ (omega arith) refl;
  renews = stands events (behind setup) 55 _ _ (omega arith) refl;
  secures = stands events (behind setup) 56 _ _ (omega arith) refl;
  anew = stands events (behind setup) 57 _ _ (omega arith) refl;
  of_stations = of_station setup events;
}
