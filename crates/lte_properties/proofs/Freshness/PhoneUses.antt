-- The order of the keys that the phone takes, in every world of every run (TS 33.401 7.2.8). It asks nothing of what anybody
-- else does.
use Rattle.std.specs.Prelude.{◌≡◌, ℕ, List, [], ◌∷◌, Some, ⊤}
use Rattle.key_model.specs.Term.{Term}
use Rattle.lte_machine.specs.{Wire.Outgoing, Reply.Took, World.World, World.next_root}
use Rattle.lte_machine.specs.PhoneState.{Radio, Idle, Connecting, Connected}
use Rattle.lte_properties.specs.ChainBelow.{AllOf}
use Rattle.lte_properties.proofs.{Freshness.Sequence.IsBefore, Freshness.Sequence.IsNotAfter, Freshness.Uses.home_at, Freshness.Uses.Homes, Freshness.Stands.PhoneStands}

-- each key that was taken comes before those that were taken later
abbrev pub TookInOrder : List (Took Term ℕ) → Type 0
TookInOrder [] = ⊤
TookInOrder (x ∷ xs) = AllOf (λ y. IsBefore x.key y.key) xs × TookInOrder xs

-- no entry of what was taken has a key
abbrev pub NeverTook : Term → List (Took Term ℕ) → Type 0
NeverTook kenb took = AllOf (λ x. x.key ≡ kenb → ⊥) took

-- the KeNB with which a phone waits comes after all that it took, so that it was never taken; none that it took comes after
-- the one with which it is connected
abbrev pub RadioInOrder : List (Took Term ℕ) → Radio Term ℕ → Type 0
RadioInOrder took Idle = ⊤
RadioInOrder took (Connecting w) = AllOf (λ x. IsBefore x.key w.kenb) took × NeverTook w.kenb took
RadioInOrder took (Connected l) = AllOf (λ x. IsNotAfter x.key l.kenb) took

-- so it is in a world
abbrev pub PhoneInOrder : World Term ℕ (Outgoing Term ℕ) → Type 0
PhoneInOrder w = TookInOrder w.took × RadioInOrder w.took w.phone.radio

-- what keeps it: the authentications so far, and the homes of the keys that the phone took
pub record PhoneFresh (w : World Term ℕ (Outgoing Term ℕ)) : Type 0 where
  pub roots : ℕ
  pub taken : Homes
  pub counted : next_root w ≡ roots
  pub phone : PhoneStands roots taken w.phone
  pub took : AllOf (λ x. taken x.key ≡ Some (home_at x.station x.air)) w.took
  pub order : TookInOrder w.took
