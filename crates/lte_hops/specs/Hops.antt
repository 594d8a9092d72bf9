-- Forward and backward security of keys over handovers, in the words of TS 33.401 3.1: a station that shares a key with the phone
-- can not compute the keys that phone and other stations use after so many handovers, nor those that they used before.
use Rattle.std.specs.Prelude.{◌≡◌, ◌≢◌, ℕ, ◌<◌, ◌==◌, List, Some}
use Rattle.annex_a_keys.specs.Cell.{Place}
use Rattle.key_model.specs.Term.{Term, Root, Star}
use Rattle.key_model.specs.{Chain.nh, Derivable.Derivable, Derivable.ComesFrom}
use Rattle.lte_machine.specs.Reply.{ByAttempt, Made, Before, Commanded, Took, ByTarget}
use Rattle.lte_machine.specs.{Wire.Outgoing, World.World}
use Rattle.lte_events.specs.{declared.events.Event.Event, declared.setups.Setup.Setup}
use Rattle.lte_properties.specs.{Headline.EachWritten, ChainBelow.AllOf, Agreement.made_at, Agreement.ahead}
use Rattle.lte_properties.specs.Separation.{HeldBy, Those, WasHeld}

abbrev pub TheWorld : Type 0
TheWorld = World Term ℕ (Outgoing Term ℕ)

-- the station can not compute the key, from all that it held at any time of the run
abbrev pub CannotCompute : TheWorld → ℕ → Term → Type 0
CannotCompute w id key = Derivable (HeldBy (Those (λ a. a == id)) w.held) key → ⊥

-- the phone obeyed a handover command from one station to another, fewer than eight steps ahead, and took KeNB* of an NH or of the KeNB that
-- began the chain: not of a KeNB* (a vertical handover, where the number is above 0)
pub record HandedOver (w : TheWorld) (x : Took Term ℕ) (before : Before Term ℕ) : Type 0 where
  pub came : x.came ≡ Commanded before
  pub made : Made Term ℕ
  pub there : made_at w.made x.station x.air ≡ Some made
  pub near : ahead made x.came < 8
  pub r : ℕ
  pub octets : List ℕ
  pub n : ℕ
  pub i : ℕ
  pub cell : Place
  pub key : x.key ≡ Star (nh (Root r octets) n i) cell.pci cell.earfcn

-- over S1: the attempt by which the target came to the key is one over S1
abbrev pub OverS1 : TheWorld → Made Term ℕ → Type 0
OverS1 w m = AllOf (λ e. m.from ≡ ByAttempt (record { source = e.station; attempt = e.attempt }) → e.kind ≡ ByTarget) w.tried

-- ONE HOP, over S1: none but the target can compute its key, so the source can not
abbrev pub OneHop : TheWorld → Type 0
OneHop w = AllOf (λ x. (before : Before Term ℕ) → (h : HandedOver w x before) → OverS1 w h.made
    → (id : ℕ) → id ≢ x.station → CannotCompute w id x.key) w.took

-- TWO HOPS, over X2 too: none but the source and the target of the second handover can compute its key, so the source of the first can not
abbrev pub TwoHops : TheWorld → Type 0
TwoHops w = AllOf (λ x. (before : Before Term ℕ) → HandedOver w x before
    → (id : ℕ) → id ≢ before.station → id ≢ x.station → CannotCompute w id x.key) w.took

-- BACKWARD: a station can compute a key that somebody held only where it held that key itself, or one from which it comes by KeNB* steps; so
-- no key of phone and other stations that is older than all it held
abbrev pub Backward : TheWorld → Type 0
Backward w = (id : ℕ) (t : Term) → WasHeld w.held t → (ComesFrom (HeldBy (Those (λ a. a == id)) w.held) t → ⊥) → CannotCompute w id t

-- in every world by which a run goes on
pub record Hops (setup : Setup) (events : List Event) : Type 0 where
  pub one_hop : EachWritten setup events OneHop
  pub two_hops : EachWritten setup events TwoHops
  pub backward : EachWritten setup events Backward
