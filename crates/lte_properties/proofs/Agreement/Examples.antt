-- Agreement's statement evaluated on worked runs. Of late answers: at the last command of the one the target is seven steps
-- ahead, and the phone takes what it made; in the other it is eight steps ahead, and key and number differ. Of key changes:
-- in the one the phone derives from the KASME that the change was made from; in the other it had been authenticated once
-- more before the order came, which counts as eight, and the key differs.
use Rattle.std.proofs.Common.{◌≡◌, ℕ, false, refl, List, [], ◌∷◌, Option, Some, None}
use Rattle.std.specs.Prelude.{◌+◌, replicate, reverse}
use Rattle.lte_events.specs.declared.events.Event.{Event}
use Rattle.key_model.specs.Term.{Term, Root, Kenb, same_term}
use Rattle.lte_machine.specs.{Opening.open_octets, Wire.Outgoing}
use Rattle.lte_machine.specs.Reply.{ByChange, Made, Changed, Took}
use Rattle.lte_machine.specs.Run.{RunState, Running, Stopped, replay}
use Rattle.lte_machine.proofs.{KeyChanges.changed, KeyChanges.changed_twice, LateAnswers.seven_ahead, LateAnswers.eight_ahead}
use Rattle.lte_machine.proofs.Scenario.{computing, machine, start, toy}
use Rattle.lte_properties.specs.Agreement.{made_at, ahead, TookMade}

abbrev Compares : Type 1
Compares = Took Term ℕ → Made Term ℕ → Type 0

-- what the phone took last, and what was made at its air address
abbrev WithMade : Compares → Took Term ℕ → Option (Made Term ℕ) → Type 0
WithMade P x None = ⊥
WithMade P x (Some m) = P x m

abbrev OfNewest : Compares → List (Made Term ℕ) → List (Took Term ℕ) → Type 0
OfNewest P made [] = ⊥
OfNewest P made (x ∷ took) = WithMade P x (made_at made x.station x.air)

abbrev AtEnd : Compares → RunState Term ℕ (Outgoing Term ℕ) → Type 0
AtEnd P (Running w) = OfNewest P w.made (reverse w.took)
AtEnd P (Stopped coincidence) = ⊥

abbrev After : List Event → Compares → Type 0
After events P = AtEnd P (replay (open_octets toy) machine start events)

-- a handover command
seven : After seven_ahead (λ x m. (ahead m x.came ≡ 7) × TookMade x m)
unfolding computing
seven = (refl, (refl, refl, refl))

eight : After eight_ahead (λ x m. (ahead m x.came ≡ 8) × (same_term x.key m.key ≡ false) × (x.number ≡ 0) × (m.number ≡ 8))
unfolding computing
eight = (refl, refl, refl, refl)

-- the KASME of each authentication, and the connection before the change
abbrev kasme : ℕ → Term
kasme r = Root r (replicate 32 (r + 1))

abbrev kenb : Term
kenb = Kenb (kasme 0) 0

-- a key change
obeyed : After changed (λ x m. (m.from ≡ ByChange kenb) × (x.came ≡ Changed (record { station = 0; key = kenb; number = 0 }) (kasme 1))
    × (ahead m x.came ≡ 0) × TookMade x m)
unfolding computing
obeyed = (refl, refl, refl, (refl, refl, refl))

one_more : After changed_twice (λ x m. (m.from ≡ ByChange kenb) × (x.came ≡ Changed (record { station = 0; key = kenb; number = 0 }) (kasme 2))
    × (ahead m x.came ≡ 8) × (same_term x.key m.key ≡ false) × (x.number ≡ 0) × (m.number ≡ 0))
unfolding computing
one_more = (refl, refl, refl, refl, refl, refl)
