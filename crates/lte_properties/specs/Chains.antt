-- For each connection number one KASME and one KeNB, of whose chain all its keys are (TS 33.401 7.2.8.1.1 and 7.2.9.2).
use Rattle.std.specs.Prelude.{◌≡◌, ℕ, ◌<◌, ◌≤◌, ◌⊎◌, List, Option, Some, None, ⊤}
use Rattle.key_model.specs.Term.{Term, Root, Kenb, Nh, Star, Alg}
use Rattle.key_model.specs.{Chain.nh, HandoverTable.NumberedKey}
use Rattle.s1x2_rec.specs.Fields.{InitialContext, PathSwitchAnswer, HandoverRequest, X2Request, ContextModification}
use Rattle.ho_prep.specs.Prep.{Prep}
use Rattle.x2_handover.specs.declared.orders.Order.{Order}
use Rattle.lte_events.specs.{declared.events.Event.Event, declared.setups.Setup.Setup}
use Rattle.lte_machine.specs.Reply.{From, BySetup, ByAttempt, ByChange, Made, Tried, Came, Changed, Took, Handover, BySource, ByTarget}
use Rattle.lte_machine.specs.StationState.{Context, Via, Renewing, Commanded, Attempt}
use Rattle.lte_machine.specs.{CoreState.CoreLink, Wire.Outgoing, Wire.Between, World.Machine, World.World, Run.first_world, Distinct.Member}
use Rattle.lte_properties.specs.Agreement.{made_at, ahead, HadTaken}
use Rattle.lte_properties.specs.{Origins.root_of, Origins.nas_count_of, ChainBelow.AllOf, ChainHolds.core_numbers, ChainHolds.run}

-- the key of a chain, an NH or the KeNB that it begins with, from which a KeNB comes by KeNB* steps
abbrev pub chain_key : Term → Term
chain_key (Star t pci earfcn) = chain_key t
chain_key (Root r octets) = Root r octets
chain_key (Kenb r n) = Kenb r n
chain_key (Nh r t) = Nh r t
chain_key (Alg t type id) = Alg t type id

-- a KeNB comes by KeNB* steps from the key of this number of the chain of a KASME and a NAS COUNT
abbrev pub OnChain : Term → ℕ → Term → ℕ → Type 0
OnChain root count key number = chain_key key ≡ nh root count number

-- of each connection number its KASME, the NAS COUNT of its KeNB, and the core's chain number for it, or the last one
pub record Chains : Type 0 where
  pub root : ℕ → Term
  pub count : ℕ → ℕ
  pub top : ℕ → ℕ

-- a KeNB of a connection is on its chain, at its number, and the core's number is not below
abbrev pub IsKeyOf : Chains → ℕ → Term → ℕ → Type 0
IsKeyOf c conn key number = OnChain (c.root conn) (c.count conn) key number × (number ≤ c.top conn)

-- a pair of a connection is the key of its number on that chain
abbrev pub IsPairOf : Chains → ℕ → NumberedKey Term ℕ → Type 0
IsPairOf c conn pair = (pair.key ≡ nh (c.root conn) (c.count conn) pair.number) × (pair.number ≤ c.top conn)

abbrev pub ArePairsOf : Chains → ℕ → Option (NumberedKey Term ℕ) → Type 0
ArePairsOf c conn None = ⊤
ArePairsOf c conn (Some pair) = IsPairOf c conn pair

abbrev pub GivenOn : Chains → ℕ → Handover Term ℕ → Type 0
GivenOn c conn ByTarget = ⊤
GivenOn c conn (BySource star) = IsKeyOf c conn star.key star.number

-- an attempt: the key of the context under which it was opened, and the KeNB* that its source made
abbrev pub TriedOn : Chains → Tried Term ℕ → Type 0
TriedOn c e = IsKeyOf c e.conn e.key e.number × GivenOn c e.conn e.kind

abbrev pub ContextOn : Chains → Option (Context Term ℕ) → Type 0
ContextOn c None = ⊤
ContextOn c (Some x) = IsKeyOf c x.conn x.key.kenb x.key.number × ArePairsOf c x.conn x.key.pair

-- the attempt of this number of a station: it was opened under the key that its context still has
abbrev pub OpenedUnder : List (Tried Term ℕ) → ℕ → Context Term ℕ → ℕ → Type 0
OpenedUnder tried id x number =
    (e : Tried Term ℕ) × Member e tried × (e.station ≡ id) × (e.attempt ≡ number) × (e.conn ≡ x.conn)
    × (e.key ≡ x.key.kenb) × (e.number ≡ x.key.number)

-- a change of the context's key: its order is for what was made of that
abbrev pub ChangeOn : List (Made Term ℕ) → ℕ → Context Term ℕ → Attempt Term ℕ → Type 0
ChangeOn made id x a =
    (order : Order) × (a.progress ≡ Commanded order)
    × (m : Made Term ℕ) × (made_at made id order.air ≡ Some m) × (m.from ≡ ByChange x.key.kenb)

-- an attempt belongs to the context under whose key it was opened, and so does a change of the key
abbrev pub ViaOn : List (Made Term ℕ) → List (Tried Term ℕ) → ℕ → Context Term ℕ → Attempt Term ℕ → Via → Type 0
ViaOn made tried id x a Renewing = ChangeOn made id x a
ViaOn made tried id x a other = OpenedUnder tried id x a.number

abbrev pub AttemptOn : List (Made Term ℕ) → List (Tried Term ℕ) → ℕ → Context Term ℕ → Option (Attempt Term ℕ) → Type 0
AttemptOn made tried id x None = ⊤
AttemptOn made tried id x (Some a) = ViaOn made tried id x a a.via

abbrev pub AttemptsOn : List (Made Term ℕ) → List (Tried Term ℕ) → ℕ → Option (Context Term ℕ) → Type 0
AttemptsOn made tried id None = ⊤
AttemptsOn made tried id (Some x) = AttemptOn made tried id x x.attempt

abbrev pub PrepOn : Chains → Prep Term ℕ → Type 0
PrepOn c p = IsKeyOf c p.conn p.key.kenb p.key.number × ArePairsOf c p.conn p.key.pair

-- the core has the key of its number
abbrev pub LinkOn : Chains → Option (CoreLink Term ℕ) → Type 0
LinkOn c None = ⊤
LinkOn c (Some link) =
    (link.chain.root ≡ c.root link.conn) × (link.chain.number ≡ c.top link.conn)
    × (link.chain.sync ≡ nh (c.root link.conn) (c.count link.conn) link.chain.number)

-- the five kinds of records that carry a key. A Context Modification is a record of the next connection
abbrev pub RecordOn : Chains → Outgoing Term ℕ → Type 0
RecordOn c (Between to (InitialContext conn cell caps) (Some key)) = IsPairOf c conn key
RecordOn c (Between to (PathSwitchAnswer conn number) (Some pair)) = IsPairOf c conn pair
RecordOn c (Between to (HandoverRequest conn source attempt cell caps) (Some pair)) = IsPairOf c conn pair
RecordOn c (Between to (X2Request conn source attempt cell caps) (Some star)) = IsKeyOf c conn star.key star.number
RecordOn c (Between to (ContextModification conn next) (Some key)) = IsPairOf c next key
RecordOn c other = ⊤

-- KeNB* for its cell of the key of the attempt's context, or of the NH of its number (7.2.8.4.2, 7.2.8.4.3)
abbrev pub StarOf : Chains → Tried Term ℕ → Made Term ℕ → Type 0
StarOf c e m =
    ((m.number ≡ e.number) × (m.key ≡ Star e.key m.cell.pci m.cell.earfcn))
    ⊎ ((e.number < m.number) × (m.key ≡ Star (nh (c.root m.conn) (c.count m.conn) m.number) m.cell.pci m.cell.earfcn))

-- how a station came to what it made: by the setup of a context it is the KeNB of the connection; by an attempt that it is
-- the target of, a KeNB* for the attempt's cell; by a change of the key, KeNB* of the KeNB that the connection begins with,
-- of COUNT 0, in place of a key that the phone had taken at that station (7.2.9.2)
abbrev pub MadeHow : Chains → List (Tried Term ℕ) → List (Took Term ℕ) → Made Term ℕ → From Term → Type 0
MadeHow c tried took m BySetup = (m.number ≡ 0) × (m.key ≡ Kenb (c.root m.conn) (c.count m.conn))
MadeHow c tried took m (ByAttempt o) =
    (e : Tried Term ℕ) × Member e tried × (e.station ≡ o.source) × (e.attempt ≡ o.attempt)
    × (e.target ≡ m.station) × (e.conn ≡ m.conn) × (e.cell ≡ m.cell) × StarOf c e m
MadeHow c tried took m (ByChange old) =
    (m.number ≡ 0) × (m.key ≡ Star (Kenb (c.root m.conn) 0) m.cell.pci m.cell.earfcn)
    × (air : ℕ) × HadTaken took m.station air old

-- what the phone took belongs to the connection for which its air address was drawn; where it changed its key, only if
-- that was made from its own authentication
abbrev pub BelongsTo : Chains → Made Term ℕ → Took Term ℕ → Came Term ℕ → Type 0
BelongsTo c m x (Changed before root) = ahead m (Changed before root) < 8 → IsKeyOf c m.conn x.key x.number
BelongsTo c m x other = IsKeyOf c m.conn x.key x.number

-- its number is that of its key on the chain of the phone's KASME, and the core's number for that connection is not below
abbrev pub TookOn : Chains → List (Made Term ℕ) → Took Term ℕ → Type 0
TookOn c made x =
    OnChain (root_of x.key) (nas_count_of x.key) x.key x.number
    × (m : Made Term ℕ) × (made_at made x.station x.air ≡ Some m) × (x.number ≤ c.top m.conn) × BelongsTo c m x x.came

-- all of it, in one world
pub record AreChains (c : Chains) (w : World Term ℕ (Outgoing Term ℕ)) : Type 0 where
  -- what stations made for their air addresses, and the attempts that they opened
  pub made : AllOf (λ m. IsKeyOf c m.conn m.key m.number) w.made
  pub how : AllOf (λ m. MadeHow c w.tried w.took m m.from) w.made
  pub tried : AllOf (TriedOn c) w.tried
  -- what they hold, and the core
  pub contexts : AllOf (λ s. ContextOn c s.context) w.stations
  pub attempts : AllOf (λ s. AttemptsOn w.made w.tried s.id s.context) w.stations
  pub preps : AllOf (λ s. AllOf (PrepOn c) s.preps) w.stations
  pub core : LinkOn c w.core.link
  -- what was sent on S1 and X2
  pub sent : AllOf (RecordOn c) w.sent
  -- what the phone took
  pub took : AllOf (TookOn c w.made) w.took

-- in the world after these events, where the core's numbers are those of the run
abbrev pub ChainsHold : Machine Term ℕ (Outgoing Term ℕ) → Setup → List Event → Type 0
ChainsHold m setup events =
    (root : ℕ → Term) × (count : ℕ → ℕ)
    × AreChains (record { root = root; count = count; top = core_numbers m (first_world setup) (λ conn. 0) events })
    (run m (first_world setup) events)
