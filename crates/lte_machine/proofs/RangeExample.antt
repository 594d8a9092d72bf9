-- The premises of the whole run hold of the ordinary scenario.
use Rattle.std.proofs.Common.{refl, ℕ, ◌<◌, arith}
use Rattle.std.specs.Prelude.{[], ◌∷◌, All}
use Rattle.std.specs.List.{IsDistinct, AllByRecursion as AllOf}
use Rattle.std.proofs.lemmas.List.Elements.{All-cons, All-nil, All-replicate}
use Rattle.annex_a_keys.specs.Cell.{IsCell}
use Rattle.rec_base.specs.Ranges.{IsText}
use Rattle.lte_events.specs.Ranges.{IsEvent, IsStation, IsSiteOf, IsSetup}
use Rattle.lte_machine.proofs.Ordinary.{ordinary}
use Rattle.lte_machine.proofs.Scenario.{place, setup, auth}

two : {X : Type 0} (P : X → Type 0) (a b : X) → P a → P b → All P (a ∷ b ∷ [])
two P a b first second = All-cons P a (b ∷ []) first (All-cons P b [] second (All-nil P))

ordinary_setup : IsSetup setup
unfolding IsDistinct
ordinary_setup = record {
  caps = (omega arith, omega arith);
  core_first = (omega arith, omega arith);
  stations = two IsStation _ _ (omega arith, (omega arith, omega arith)) (omega arith, (omega arith, omega arith));
  ids_differ = ((refl, tt), (tt, tt));
  sites = two (IsSiteOf setup.stations) _ _ ((omega arith, omega arith), refl) ((omega arith, omega arith), refl);
}

authentication : IsEvent (auth 0 1)
authentication = (omega arith, (All-replicate (λ octet. octet < 256) 32 1 (omega arith), refl), (omega arith, omega arith))

at_place_0 : IsCell (place 0)
at_place_0 = (omega arith, omega arith)

at_place_1 : IsCell (place 1)
at_place_1 = (omega arith, omega arith)

-- a text of two octets
two_octets : (a b : ℕ) → a < 256 → b < 256 → IsText 1500 (a ∷ b ∷ [])
two_octets a b h k = (two (λ octet. octet < 256) a b h k, omega arith)

ordinary_events : AllOf IsEvent ordinary
ordinary_events =
    (authentication, (tt, (tt, (tt, (at_place_0, (tt, (tt, (tt, ((two_octets 0x68 0x69 (omega arith) (omega arith)), (tt, (at_place_1, (tt, (tt, (tt, (tt, (tt, (tt, (tt, (tt, (at_place_0, (tt, (tt, (tt, (tt, (tt, ((two_octets 0x6f 0x6b (omega arith) (omega arith)), (tt, tt)))))))))))))))))))))))))))
