-- Who can derive which key (TS 33.401 7.2.8): no station but two can derive the key of a handover, and no station has a KASME.
use Rattle.std.specs.Prelude.{◌≡◌, ℕ, Bool, IsTrue, ◌⊎◌, ◌↔◌, List, [], ◌∷◌, Some, ⊤}
use Rattle.annex_a_keys.specs.Cell.{Place}
use Rattle.lte_events.specs.{declared.addresses.Address.TheVariants.StationS1, declared.events.Event.Event, declared.setups.Setup.Setup, Site.Site, Site.station_of}
use Rattle.key_model.specs.Term.{Term, Root, Star, IsWellFormed}
use Rattle.key_model.specs.Chain.{nh}
use Rattle.key_model.specs.Derivable.{Derivable, HasNoRoot, ComesFrom}
use Rattle.lte_machine.specs.{Wire.Outgoing, Wire.Between, Distinct.keys_of, Distinct.Member, Known.StationKnown, Run.first_world}
use Rattle.lte_machine.specs.Reply.{From, BySetup, ByAttempt, ByChange, Made, Tried, Handover, BySource, ByTarget}
use Rattle.lte_machine.specs.World.{Machine, World, Holder, AtPhone, AtCore, AtStation, Holding}
use Rattle.lte_properties.specs.{ChainBelow.AllOf, ChainHolds.run}

-- some item of a list is so
abbrev pub AnyOf : {A : Type 0} → (A → Type 0) → List A → Type 0
AnyOf P [] = ⊥
AnyOf P (x ∷ xs) = P x ⊎ AnyOf P xs

-- a holder is a station of the set
abbrev pub IsStationOf : (ℕ → Type 0) → Holder → Type 0
IsStationOf among AtPhone = ⊥
IsStationOf among AtCore = ⊥
IsStationOf among (AtStation id) = among id

-- the keys that the stations of a set held, at any time: what they derived, and what came to them in records
abbrev pub HeldBy : (ℕ → Type 0) → List (Holding Term) → Term → Type 0
HeldBy among held t = AnyOf (λ h. IsStationOf among h.holder × (h.key ≡ t)) held

-- a key that anybody held, at any time
abbrev pub WasHeld : List (Holding Term) → Term → Type 0
WasHeld held t = AnyOf (λ h. h.key ≡ t) held

-- a record on S1 gives a key to a station. The core alone sends there
abbrev pub Gives : Term → ℕ → Outgoing Term ℕ → Type 0
Gives t id (Between (StationS1 station) fields (Some key)) = (key.key ≡ t) × (station ≡ id)
Gives t id other = ⊥

-- the core sent the key to the station: KeNB, or an NH in a pair (7.2.8.1.1, 7.2.8.4.2 and 7.2.8.4.3)
abbrev pub GivenTo : List (Outgoing Term ℕ) → Term → ℕ → Type 0
GivenTo sent t id = AnyOf (Gives t id) sent

-- each key is given to one station
abbrev pub GivenOnce : World Term ℕ (Outgoing Term ℕ) → Type 0
GivenOnce w = (t : Term) (a b : ℕ) → GivenTo w.sent t a → GivenTo w.sent t b → a ≡ b

-- no station ever holds a KASME (6.2)
abbrev pub NoRootHeld : {S : Type 0} → World Term ℕ S → Type 0
NoRootHeld w = HasNoRoot (HeldBy (λ id. ⊤) w.held)

-- the station to which the core gave the key of number i of a chain is not in the set, and the station of the cell is not
abbrev pub HasNeither : List Site → List (Outgoing Term ℕ) → (ℕ → Type 0) → Term → Place → Type 0
HasNeither sites sent among key cell =
    ((id : ℕ) → GivenTo sent key id → among id → ⊥) × ((id : ℕ) → station_of cell sites ≡ Some id → among id → ⊥)

-- a set of stations, by a test of their numbers
abbrev pub Those : (ℕ → Bool) → ℕ → Type 0
Those test id = IsTrue (test id)

-- KeNB* of a cell from the key of number i of a chain, where i is above 0 the vertical one: a set of stations that has neither
-- the station to which the core gave that key nor the station of the cell cannot derive it, from all that they held at any
-- time of the run together (7.2.8.4.1 to 7.2.8.4.3)
abbrev pub Separated : List Site → World Term ℕ (Outgoing Term ℕ) → Type 0
Separated sites w =
    (test : ℕ → Bool) (r : ℕ) (octets : List ℕ) (n i : ℕ) (cell : Place)
    → HasNeither sites w.sent (Those test) (nh (Root r octets) n i) cell
    → Derivable (HeldBy (Those test) w.held) (Star (nh (Root r octets) n i) cell.pci cell.earfcn) → ⊥

-- all stations but these two
abbrev pub AllBut : List Site → List (Outgoing Term ℕ) → Term → Place → ℕ → Type 0
AllBut sites sent key cell id = (GivenTo sent key id → ⊥) × (station_of cell sites ≡ Some id → ⊥)

-- and so all other stations together cannot
abbrev pub OthersCannot : List Site → World Term ℕ (Outgoing Term ℕ) → Type 0
OthersCannot sites w =
    (r : ℕ) (octets : List ℕ) (n i : ℕ) (cell : Place)
    → Derivable (HeldBy (AllBut sites w.sent (nh (Root r octets) n i) cell) w.held) (Star (nh (Root r octets) n i) cell.pci cell.earfcn)
    → ⊥

-- every key that anybody held: a set of stations can derive it exactly where one of them held it, or held a key from which it
-- comes by KeNB* steps and, for an algorithm key, one step of A.7
abbrev pub HoldingIs : {S : Type 0} → World Term ℕ S → Type 0
HoldingIs w =
    (test : ℕ → Bool) (t : Term)
    → WasHeld w.held t → Derivable (HeldBy (Those test) w.held) t ↔ ComesFrom (HeldBy (Those test) w.held) t

-- and every key that anybody held is one of Annex A
abbrev pub AllWellFormed : {S : Type 0} → World Term ℕ S → Type 0
AllWellFormed w = (t : Term) → WasHeld w.held t → IsWellFormed t

-- every key of the run, a KASME or one that was derived, was held by somebody
abbrev pub AllHeld : {S : Type 0} → World Term ℕ S → Type 0
AllHeld w = (t : Term) → Member t (keys_of w.history) → WasHeld w.held t

-- and each key that a station has in its context, in a preparation or in an attempt is one that it held
abbrev pub OwnHeld : {S : Type 0} → World Term ℕ S → Type 0
OwnHeld w = AllOf (λ s. StationKnown (HeldBy (λ id. id ≡ s.id) w.held) s) w.stations

-- in one world of a run over these cells
pub record Separates (sites : List Site) (w : World Term ℕ (Outgoing Term ℕ)) : Type 0 where
  pub no_root : NoRootHeld w
  pub once : GivenOnce w
  pub separated : Separated sites w
  pub others : OthersCannot sites w
  pub well_formed : AllWellFormed w
  pub holding : HoldingIs w
  pub all_held : AllHeld w
  pub own : OwnHeld w

-- TO WHOM THE KEY OF A HANDOVER WAS GIVEN

-- a handover over X2 or within a station, whose source made KeNB*, or one over S1
abbrev pub GivenAt : List (Outgoing Term ℕ) → Term → ℕ → ℕ → Handover Term ℕ → Type 0
GivenAt sent key source target (BySource star) = GivenTo sent key source
GivenAt sent key source target ByTarget = GivenTo sent key target

-- what a station made for an air address: by an attempt of a handover, where its key is KeNB* of a key of a chain, the core
-- gave that key to the source where the attempt made KeNB*, over X2 or within the station, and to the target where it was one
-- over S1 (7.2.8.4.1 to 7.2.8.4.3); by a key change, the core gave the KeNB of which it is KeNB* to the station (7.2.9.2)
abbrev pub MadeAsGiven : World Term ℕ (Outgoing Term ℕ) → Made Term ℕ → From Term → Type 0
MadeAsGiven w m BySetup = ⊤
MadeAsGiven w m (ByChange before) =
    (r : ℕ) (octets : List ℕ) (n i pci earfcn : ℕ) → m.key ≡ Star (nh (Root r octets) n i) pci earfcn
    → GivenTo w.sent (nh (Root r octets) n i) m.station
MadeAsGiven w m (ByAttempt o) =
    (r : ℕ) (octets : List ℕ) (n i pci earfcn : ℕ) → m.key ≡ Star (nh (Root r octets) n i) pci earfcn
    → AnyOf (λ e. (e.station ≡ o.source) × (e.attempt ≡ o.attempt)
    × GivenAt w.sent (nh (Root r octets) n i) o.source m.station e.kind) w.tried

-- an attempt number of a station is of one attempt
abbrev pub AttemptsDiffer : List (Tried Term ℕ) → Type 0
AttemptsDiffer [] = ⊤
AttemptsDiffer (e ∷ es) = AllOf (λ f. e.station ≡ f.station → e.attempt ≡ f.attempt → ⊥) es × AttemptsDiffer es

-- after these events, from this setup
abbrev pub SeparationHolds : Machine Term ℕ (Outgoing Term ℕ) → Setup → List Event → Type 0
SeparationHolds m setup events = Separates setup.cells (run m (first_world setup) events)

-- what was made comes of keys that were given so, and attempts are numbered apart
abbrev pub GivenAsTried : World Term ℕ (Outgoing Term ℕ) → Type 0
GivenAsTried w = AllOf (λ m. MadeAsGiven w m m.from) w.made × AttemptsDiffer w.tried

abbrev pub GivingHolds : Machine Term ℕ (Outgoing Term ℕ) → Setup → List Event → Type 0
GivingHolds m setup events = GivenAsTried (run m (first_world setup) events)
