-- The station that serves is one of eight.
use Rattle.std.proofs.Common.{◌≡◌, ℕ, ◌≤◌, Bool, true, false, List, [], ◌∷◌, All, ◌==◌, ◌||◌, refl, subst}
use Rattle.std.proofs.{lemmas.Bool.eqb-true, lemmas.List.Elements.All-head, lemmas.List.Elements.All-tail}
use Rattle.lte_events.specs.{Ranges.has_station, Ranges.IsStation, declared.setups.StationSetup.StationSetup}

either : (stations : List StationSetup) (s : StationSetup) (id : ℕ) (b : Bool) → IsStation s → (s.id == id) ≡ b →
    (has_station stations id ≡ true → id ≤ 7) → (b || has_station stations id) ≡ true → id ≤ 7
either stations s id true is same others h = subst (λ n. n ≤ 7) (eqb-true s.id id same) is.0
either stations s id false is differs others h = others h

pub station_low : (stations : List StationSetup) (id : ℕ) → All IsStation stations → has_station stations id ≡ true → id ≤ 7
station_low [] id all h = absurd cc
station_low (s ∷ ss) id all h =
    either ss s id (s.id == id) (All-head IsStation s ss all) refl (station_low ss id (All-tail IsStation s ss all)) h
