-- The stations of a setup have its numbers, which differ.
use Rattle.std.proofs.Common.{◌≡◌, refl, sym, ap, ◌∙◌, subst, ℕ, ◌==◌, false, List, [], ◌∷◌, map}
use Rattle.std.specs.Prelude.{◌<◌, ◌≤◌, All, IsTrue, length, None}
use Rattle.std.specs.List.{IsDistinct, AllByRecursion as AllOf}
use Rattle.std.proofs.{lemmas.Bool.false≢true, lemmas.List.Elements.recursion_from_All}
use Rattle.lte_events.specs.{Site.Site, declared.events.Event.Event, declared.setups.Setup.Setup, declared.setups.StationSetup.StationSetup}
use Rattle.lte_events.specs.Ranges.{IsStation, IsEvent, IsSetup}
use Rattle.lte_machine.specs.{BothRuns.octet_run, Run.first_world, Run.stations_of, StationState.Station}
use Rattle.lte_world.specs.Systems.{Actors, Are, HasRoom}
use Rattle.lte_world.specs.Whole.{Goes, Stands}
use Rattle.lte_world.proofs.StationsStand.{first_ids}

apart_one : (s : StationSetup) (setups : List StationSetup)
    → AllOf (λ t. (s.id == t.id) ≡ false) setups
    → AllOf (λ y. (s.id == y) ≡ false) (map (λ t. t.id) setups)
apart_one s [] h = tt
apart_one s (t ∷ ts) h = (h.0, apart_one s ts h.1)

ids_apart : (setups : List StationSetup) → IsDistinct (λ s t. s.id == t.id) setups → IsDistinct (λ a b. a == b) (map (λ s. s.id) setups)
unfolding IsDistinct
ids_apart [] h = tt
ids_apart (s ∷ ss) h = (apart_one s ss h.0, ids_apart ss h.1)

low_ids : (setups : List StationSetup) → AllOf IsStation setups → AllOf (λ id. id ≤ 7) (map (λ s. s.id) setups)
low_ids [] h = tt
low_ids (s ∷ ss) h = (h.0.0, low_ids ss h.1)

pub ids_stand : (cells : List Site) (setups : List StationSetup) (ids : List ℕ) (stations : List (Station (List ℕ) ℕ))
    → ids ≡ map (λ s. s.id) setups
    → stations ≡ stations_of cells setups
    → IsDistinct (λ s t. s.id == t.id) setups
    → All IsStation setups
    → (map (λ s. s.id) stations ≡ ids) × IsDistinct (λ a b. a == b) ids × AllOf (λ id. id ≤ 7) ids
ids_stand cells setups ids stations named are apart low = (
  ap (map (λ s. s.id)) are ∙ first_ids cells setups ∙ sym named,
  subst (IsDistinct (λ a b. a == b)) (sym named) (ids_apart setups apart),
  subst (AllOf (λ id. id ≤ 7)) (sym named) (low_ids setups (recursion_from_All IsStation setups low)),
)

-- a world begins with nothing in its journal
pub begins : (setup : Setup)
    → IsSetup setup
    → (a : Actors)
    → Are (first_world setup) a
    → (copied : Setup)
    → copied ≡ setup
    → (journal : List Event)
    → journal ≡ []
    → (spare : ℕ)
    → IsSetup copied × AllOf IsEvent journal × (IsTrue false → HasRoom a.stores × (0 < spare)) × Stands None (octet_run copied journal) a (length journal)
begins setup set a are copied is journal none spare = (
  subst IsSetup (sym is) set,
  subst (AllOf IsEvent) (sym none) tt,
  λ t. absurd (false≢true t),
  subst (λ (s : Setup). Goes (octet_run s journal) a (length journal)) (sym is)
      (subst (λ (es : List Event). Goes (octet_run setup es) a (length es)) (sym none) (are, refl)),
)
