-- What the lists of a world account for: its uses are those of the records sent, in order, and its holders are those who
-- derived a key or received it.
use Rattle.std.specs.Prelude.{◌≡◌, ℕ, List, [], ◌∷◌, ◌++◌, map, Option, Some, None, option_map, Result, ⊤}
use Rattle.std.specs.List.{flat_map, AllByRecursion as AllOf}
use Rattle.rec_base.specs.declared.faults.RecFault.{RecFault}
use Rattle.lte_events.specs.{declared.addresses.Address.Address, declared.events.Event.Event, declared.lines.Who.Who}
use Rattle.s1x2_rec.specs.Content.{Content}
use Rattle.key_model.specs.Term.{Term}
use Rattle.lte_machine.specs.Ladder.{RowOrigin, OfRoot, Of, row_key}
use Rattle.lte_machine.specs.{StationStep.key_read, Wire.Outgoing, Wire.uses_of}
use Rattle.lte_machine.specs.World.{Machine, World, Line, Holder, AtPhone, AtCore, AtStation, Holding, record_at, happens}

-- the uses are what the records sent were ciphered and sealed with, in order
abbrev pub UsesAreThoseSent : World Term ℕ (Outgoing Term ℕ) → Type 0
UsesAreThoseSent w = w.uses ≡ flat_map uses_of w.sent

-- who acts in an event: one actor, none, or phone and core together at an authentication
abbrev pub holders_of : Who → List Holder
holders_of Who.Phone = AtPhone ∷ []
holders_of Who.Core = AtCore ∷ []
holders_of (Who.Station id) = AtStation id ∷ []
holders_of Who.Both = AtPhone ∷ AtCore ∷ []
holders_of Who.World = []

-- the key in a record on S1 or X2 that comes to its address, if it reads and holds one
abbrev pub key_at : {K C : Type 0} → Address → Result (Content K C) RecFault → Option K
key_at Address.CoreS1 read = option_map (λ k. k.key) (key_read read)
key_at (Address.StationS1 station) read = option_map (λ k. k.key) (key_read read)
key_at (Address.StationX2 station) read = option_map (λ k. k.key) (key_read read)
key_at other read = None

abbrev pub key_of_record : {K C S : Type 0} → Machine K C S → Option S → Option K
key_of_record m None = None
key_of_record m (Some x) = key_at (m.address x) (m.content x)

-- the key that an event brings to an actor, also where the actor then refuses the record
abbrev pub key_delivered : {K C S : Type 0} → Machine K C S → World K C S → Event → Option K
key_delivered m w (Event.Deliver i) = key_of_record m (record_at i w.sent)
key_delivered m w other = None

abbrev pub with_read : {K : Type 0} → Option K → List K → List K
with_read None keys = keys
with_read (Some key) keys = key ∷ keys

abbrev pub each_holds : {K : Type 0} → List Holder → K → List (Holding K)
each_holds holders key = map (λ h. record { holder = h; key = key }) holders

-- a row of the history is a derivation, or a root of the machine: a KASME of an authentication
abbrev pub IsRowOf : {K C S : Type 0} → Machine K C S → RowOrigin K → Type 0
IsRowOf m (OfRoot key) = (number : ℕ) × (octets : List ℕ) × (key ≡ m.root number octets)
IsRowOf m (Of d) = ⊤

-- an event adds to the holders exactly these: who acts, with the key that came and with each root and key that the event
-- adds to the history
pub record Gains {K C S : Type 0} (m : Machine K C S) (w : World K C S) (came : Option K) (h : World K C S × Line K) : Type 0 where
  pub derived : List (RowOrigin K)
  pub history : h.0.history ≡ w.history ++ derived
  -- each root is one of the machine's
  pub roots : AllOf (IsRowOf m) derived
  pub held : h.0.held ≡ w.held ++ flat_map (each_holds (holders_of h.1.who)) (with_read came (map row_key derived))

-- at each event of a run
abbrev pub HoldersGain : {K C S : Type 0} → Machine K C S → World K C S → List Event → Type 0
HoldersGain m w [] = ⊤
HoldersGain m w (e ∷ es) =
    let h = happens m w e in Gains m w (key_delivered m w e) h × HoldersGain m h.0 es
