-- The invariant of agreement, part by part. Facts stand once, in what is told of a run: what was made, tried and taken;
-- states and records only point to it.
use Rattle.std.proofs.Common.{◌≡◌, ℕ, ◌-◌, ◌<◌, ◌≤◌, List, Option, Some, None, Ok}
use Rattle.rec_base.specs.declared.uses.Dir.TheVariants.{Up, Down}
use Rattle.alg_choice.specs.{Algs.eia2_identity, declared.algs.Algs.Algs}
use Rattle.annex_a_keys.specs.Cell.{Place, IsCell}
use Rattle.lte_events.specs.{declared.addresses.Address.Address, Site.Site, Site.station_of}
use Rattle.lte_events.specs.declared.addresses.Address.TheVariants.{StationS1, StationX2}
use Rattle.key_model.specs.Term.{Term, Kenb, Star, Alg}
use Rattle.key_model.specs.{Chain.nh, Chain.ncc_of, Number.chain_number, Reading.term_reading, HandoverTable.NumberedKey, HandoverLines.steps_to}
use Rattle.pdcp_guard.specs.AsKeys.{AsKeys, as_keys_of}
use Rattle.rrc_rec.specs.{declared.records.RrcRecord.RrcRecord, Reading.read_rrc}
use Rattle.rrc_rec.specs.declared.records.RrcRecord.TheVariants.{SecurityModeCommand, Reconfiguration, KeyChange}
use Rattle.s1x2_rec.specs.Fields.{Fields, InitialContext, PathSwitchAnswer, HandoverRequired, HandoverRequest, HandoverRequestAck, HandoverCommand, X2Request, X2Ack, ContextModification}
use Rattle.ho_prep.specs.Prep.{Prep}
use Rattle.x2_handover.specs.declared.orders.Order.{Order}
use Rattle.lte_machine.specs.Bearers.{Srb, Signalling1, Bearers}
use Rattle.lte_machine.specs.Wire.{KeyUse, Ciphering, Outgoing, SealedNas, SealedRrc, Between, srb_use, srb_ciphering}
use Rattle.lte_machine.specs.Reply.{Origin, From, BySetup, ByAttempt, ByChange, Made, Tried, Came, Secured, Commanded, Changed, Took, Handover, BySource, ByTarget}
use Rattle.lte_machine.specs.PhoneState.{Link, Radio, Idle, Connecting, Connected}
use Rattle.lte_machine.specs.StationState.{Station, Context, Via, Renewing, Progress, Open, Ready, Commanded as Sent, Attempt}
use Rattle.lte_machine.specs.{StationKeys.spent_of, CoreState.Core, CoreState.CoreLink}
use Rattle.std.specs.Prelude.{slice_index, length, ◌==◌, ◌&&◌, Bool, true, false, find, ⊤}
use Rattle.lte_properties.specs.{ChainBelow.AllOf, Origins.root_of, Origins.nas_count_of, Chains.chain_key, Chains.OnChain}
use Rattle.lte_properties.specs.Agreement.{made_at, Obeys, KeyGrows, HadTaken, TakenIfTried}
use Rattle.lte_properties.proofs.Agreement.Sources.{handover_by, HasStar}
use Rattle.lte_properties.proofs.Agreement.Terms.{lands, ChainOf}

-- of each connection its KASME, the COUNT of its KeNB and the greatest chain number so far; the next connection; and what
-- was told of the run
pub record Ghost : Type 0 where
  pub root : ℕ → Term
  pub count : ℕ → ℕ
  pub top : ℕ → ℕ
  pub next : ℕ
  pub made : List (Made Term ℕ)
  pub tried : List (Tried Term ℕ)
  pub took : List (Took Term ℕ)

-- the attempt of a station
abbrev pub is_tried_at : ℕ → ℕ → Tried Term ℕ → Bool
is_tried_at station attempt t = (t.station == station) && (t.attempt == attempt)

abbrev pub tried_at : List (Tried Term ℕ) → ℕ → ℕ → Option (Tried Term ℕ)
tried_at tried station attempt = find (is_tried_at station attempt) tried

-- what the phone took first at a station and air address
abbrev pub is_took_at : ℕ → ℕ → Took Term ℕ → Bool
is_took_at station air x = (x.station == station) && (x.air == air)

abbrev pub took_at : List (Took Term ℕ) → ℕ → ℕ → Option (Took Term ℕ)
took_at took station air = find (is_took_at station air) took

-- the key of a number of a connection's chain
abbrev pub chain_at : Ghost → ℕ → ℕ → Term
chain_at g conn i = nh (g.root conn) (g.count conn) i

-- the AS keys of a KeNB
abbrev pub keys_of : Term → Algs → AsKeys Term
keys_of t algs = as_keys_of term_reading t algs

-- a KeNB of a connection, with its number
abbrev pub TermOk : Ghost → ℕ → Term → ℕ → Type 0
TermOk g conn t number = (conn < g.next) × (number ≤ g.top conn) × (chain_key t ≡ chain_at g conn number)

-- a pair of a connection
abbrev pub PairOk : Ghost → ℕ → NumberedKey Term ℕ → Type 0
PairOk g conn pair = (conn < g.next) × (pair.number ≤ g.top conn) × (pair.key ≡ chain_at g conn pair.number)

abbrev pub PairsOk : Ghost → ℕ → Option (NumberedKey Term ℕ) → Type 0
PairsOk g conn None = ⊤
PairsOk g conn (Some pair) = PairOk g conn pair

-- what a phone takes that obeys an attempt's order for what was made
abbrev pub taken : Tried Term ℕ → Made Term ℕ → Term
taken e m = lands e.key (steps_to (ncc_of (chain_number e.key)) (ncc_of m.number)) e.cell

-- this is what a phone takes of what was made: the same key, what an attempt leads to, or at a key change, where it is of
-- the phone's KASME alone, what it took there first
abbrev pub FromIs : Ghost → Made Term ℕ → Term → From Term → Type 0
FromIs g m t BySetup = t ≡ m.key
FromIs g m t (ByAttempt o) = (e : Tried Term ℕ) × (tried_at g.tried o.source o.attempt ≡ Some e) × (t ≡ taken e m)
FromIs g m t (ByChange k) = (x : Took Term ℕ) × (took_at g.took m.station m.air ≡ Some x) × (t ≡ x.key)

-- this is what a phone takes at a station and air address
abbrev pub HereIs : Ghost → ℕ → ℕ → Term → Type 0
HereIs g station air t = (m : Made Term ℕ) × (made_at g.made station air ≡ Some m) × FromIs g m t m.from

-- the key of a number is that of an attempt's context, so many steps on
abbrev pub Leads : Tried Term ℕ → Term → ℕ → Type 0
Leads e key number = (e.number ≤ number) × (key ≡ lands e.key (number - e.number) e.cell)

abbrev pub GivenFits : Handover Term ℕ → ℕ → Type 0
GivenFits ByTarget number = ⊤
GivenFits (BySource star) number = star.number ≡ number

-- what was made; it is all that was made for its air address
abbrev pub FromOk : Ghost → Made Term ℕ → From Term → Type 0
FromOk g m BySetup = (m.number ≡ 0) × (m.conn < g.next) × (m.key ≡ chain_at g m.conn 0)
FromOk g m (ByAttempt o) = record {
  tried : Tried Term ℕ;
  found : tried_at g.tried o.source o.attempt ≡ Some tried;
  number : chain_number tried.key ≡ tried.number;
  target : tried.target ≡ m.station;
  leads : Leads tried m.key m.number;
  given : GivenFits tried.kind m.number;
  conn : tried.conn ≡ m.conn;
  cell : tried.cell ≡ m.cell;
}
FromOk g m (ByChange k) = record {
  number : m.number ≡ 0;
  is_cell : IsCell m.cell;
  root : Term;
  key : m.key ≡ Star (Kenb root 0) m.cell.pci m.cell.earfcn;
  -- where the phone had taken the key that was to change
  air : ℕ;
  had : HadTaken g.took m.station air k;
}

abbrev pub MadeOk : Ghost → Made Term ℕ → Type 0
MadeOk g m = record {
  low : 1 ≤ m.air;
  high : m.air < 4294967296;
  station : m.station ≤ 7;
  from : FromOk g m m.from;
  -- there is no other for its air address
  found : made_at g.made m.station m.air ≡ Some m;
  term : TermOk g m.conn m.key m.number;
}

-- what was tried
abbrev pub GivenOk : Ghost → Tried Term ℕ → Handover Term ℕ → Type 0
GivenOk g e ByTarget = ⊤
GivenOk g e (BySource star) = TermOk g e.conn star.key star.number × Leads e star.key star.number

abbrev pub TriedOk : List Site → Ghost → Tried Term ℕ → Type 0
TriedOk cells g e = record {
  term : TermOk g e.conn e.key e.number;
  target : station_of e.cell cells ≡ Some e.target;
  given : GivenOk g e e.kind;
  station : e.station ≤ 7;
}

-- a key that the phone had taken at an air address of the station, which had made that very key there
abbrev pub HadMade : Ghost → ℕ → Term → Type 0
HadMade g station t = record {
  air : ℕ;
  made : Made Term ℕ;
  found : made_at g.made station air ≡ Some made;
  key : t ≡ made.key;
  had : HadTaken g.took station air t;
}

-- under such a key it obeyed an order
abbrev pub UnderIs : Ghost → Came Term ℕ → Type 0
UnderIs g Secured = ⊤
UnderIs g (Commanded before) = HadMade g before.station before.key
UnderIs g (Changed before root) = HadMade g before.station before.key

-- what was taken
abbrev pub TookOk : Ghost → Took Term ℕ → Type 0
TookOk g x = record {
  here : HereIs g x.station x.air x.key;
  obeys : Obeys g.made x;
  grows : KeyGrows x x.came;
  on_chain : OnChain (root_of x.key) (nas_count_of x.key) x.key x.number;
  under : UnderIs g x.came;
}

-- a context or preparation is what was made for its air address
abbrev pub IsMade : Made Term ℕ → Term → ℕ → Algs → Type 0
IsMade m t number algs = (t ≡ m.key) × (number ≡ m.number) × (algs ≡ m.algs)

-- a context's, and the phone takes it there, and had
abbrev pub EntryIs : Ghost → ℕ → ℕ → Term → ℕ → Algs → Type 0
EntryIs g id air t number algs = record {
  made : Made Term ℕ;
  found : made_at g.made id air ≡ Some made;
  is : IsMade made t number algs;
  from : FromIs g made t made.from;
  had : TakenIfTried g.took id air t made.from;
}

-- an order of a source for the phone with this key: of an attempt of that key, for what was made of it
abbrev pub OrderIs : Ghost → ℕ → Term → Place → ℕ → Algs → ℕ → ℕ → Type 0
OrderIs g source t cell ncc algs station air = record {
  made : Made Term ℕ;
  origin : Origin;
  tried : Tried Term ℕ;
  made_is : made_at g.made station air ≡ Some made;
  from : made.from ≡ ByAttempt origin;
  tried_is : tried_at g.tried origin.source origin.attempt ≡ Some tried;
  key : tried.key ≡ t;
  cell : tried.cell ≡ cell;
  ncc : ncc_of made.number ≡ ncc;
  algs : made.algs ≡ algs;
  source : origin.source ≡ source;
}

-- an order for the phone with this key: what was made there is of a change of that key
abbrev pub ChangeIs : Ghost → Term → Place → Algs → ℕ → ℕ → Type 0
ChangeIs g t cell algs station air = record {
  made : Made Term ℕ;
  found : made_at g.made station air ≡ Some made;
  from : made.from ≡ ByChange t;
  cell : made.cell ≡ cell;
  algs : made.algs ≡ algs;
}

abbrev pub IsOrder : Ghost → ℕ → Term → Order → Type 0
IsOrder g source t o = OrderIs g source t o.cell o.ncc o.algs o.station o.air

-- an attempt of a context: it was opened under the context's key
abbrev pub StartIs : Ghost → ℕ → ℕ → Term → ℕ → ℕ → Place → Handover Term ℕ → Type 0
StartIs g id conn t number target cell kind = record {
  tried : Tried Term ℕ;
  found : tried_at g.tried id number ≡ Some tried;
  key : tried.key ≡ t;
  cell : tried.cell ≡ cell;
  target : tried.target ≡ target;
  conn : tried.conn ≡ conn;
  kind : tried.kind ≡ kind;
}

-- and so was the one of this number, whatever has come of it
abbrev pub UnderKey : Ghost → ℕ → ℕ → Term → ℕ → Type 0
UnderKey g id conn t number = record {
  tried : Tried Term ℕ;
  found : tried_at g.tried id number ≡ Some tried;
  key : tried.key ≡ t;
  conn : tried.conn ≡ conn;
}

-- an attempt at a handover, by how far it is
abbrev pub ProgressOk : Ghost → ℕ → ℕ → Term → Attempt Term ℕ → Progress → Type 0
ProgressOk g id conn t a Open = StartIs g id conn t a.number a.station a.cell (handover_by a.keys) × HasStar a.via a.keys
ProgressOk g id conn t a (Ready order) = IsOrder g id t order × UnderKey g id conn t a.number
ProgressOk g id conn t a (Sent order) = IsOrder g id t order × UnderKey g id conn t a.number

-- a change of the key
abbrev pub ChangeOk : Ghost → ℕ → Term → Attempt Term ℕ → Type 0
ChangeOk g id t a = record {
  order : Order;
  commanded : a.progress ≡ Sent order;
  station : order.station ≡ id;
  change : ChangeIs g t order.cell order.algs order.station order.air;
}

abbrev pub ViaOk : Ghost → ℕ → ℕ → Term → Attempt Term ℕ → Via → Type 0
ViaOk g id conn t a Renewing = ChangeOk g id t a
ViaOk g id conn t a other = ProgressOk g id conn t a a.progress

abbrev pub AttemptOk : Ghost → ℕ → ℕ → Term → Option (Attempt Term ℕ) → Type 0
AttemptOk g id conn t None = ⊤
AttemptOk g id conn t (Some a) = PairsOk g conn (spent_of a.keys) × ViaOk g id conn t a a.via

-- a context whose security starts has no attempt, and the phone had taken the key of any other
abbrev pub StartedOk : Ghost → ℕ → ℕ → Term → Bool → Option (Attempt Term ℕ) → Type 0
StartedOk g id air t true attempt = attempt ≡ None
StartedOk g id air t false attempt = HadTaken g.took id air t

-- a station's context, and its preparations, which no setup made
abbrev pub CtxOk : Ghost → ℕ → Option (Context Term ℕ) → Type 0
CtxOk g id None = ⊤
CtxOk g id (Some c) = record {
  term : TermOk g c.conn c.key.kenb c.key.number;
  pair : PairsOk g c.conn c.key.pair;
  keys : c.keys ≡ keys_of c.key.kenb c.algs;
  entry : EntryIs g id c.air c.key.kenb c.key.number c.algs;
  attempt : AttemptOk g id c.conn c.key.kenb c.attempt;
  started : StartedOk g id c.air c.key.kenb c.starting c.attempt;
}

abbrev pub PrepOk : Ghost → ℕ → Prep Term ℕ → Type 0
PrepOk g id p = record {
  term : TermOk g p.conn p.key.kenb p.key.number;
  pair : PairsOk g p.conn p.key.pair;
  keys : p.keys ≡ keys_of p.key.kenb p.algs;
  made : Made Term ℕ;
  found : made_at g.made id p.air ≡ Some made;
  is : IsMade made p.key.kenb p.key.number p.algs;
  no_setup : made.from ≡ BySetup → ⊥;
}

-- nothing was made or tried at numbers that the station did not draw yet
abbrev pub FreshFrom : Ghost → ℕ → ℕ → Type 0
FreshFrom g id next = (n : ℕ) → next ≤ n → (made_at g.made id n ≡ None) × (tried_at g.tried id n ≡ None)

-- of what was made here by an attempt of another source, the attempt was seen
abbrev pub SeenBy : ℕ → List ℕ → Made Term ℕ → Type 0
SeenBy id seen m =
    m.station ≡ id → (o : Origin) → m.from ≡ ByAttempt o → (o.source ≡ id → ⊥) → o.attempt ≤ slice_index seen o.source

abbrev pub StationOk : List Site → Ghost → Station Term ℕ → Type 0
StationOk cells g s = record {
  context : CtxOk g s.id s.context;
  preps : AllOf (PrepOk g s.id) s.preps;
  -- nothing was made or tried at the numbers to come
  fresh : FreshFrom g s.id s.next;
  cells : s.cells ≡ cells;
  id : s.id ≤ 7;
  next : 1 ≤ s.next;
  ring : length s.seen ≡ 8;
  seen : AllOf (SeenBy s.id s.seen) g.made;
}

-- a phone that came to what was made for a connection took the first record there, so that its next COUNT is not 0
abbrev pub HeardFirst : Made Term ℕ → Bearers → Type 0
HeardFirst m bearers = m.from ≡ BySetup → 1 ≤ bearers.srb1.receive

-- the phone's connection
abbrev pub LinkIs : Ghost → Link Term ℕ → Type 0
LinkIs g l = record {
  chain : ChainOf l.kenb l.chain;
  keys : l.keys ≡ keys_of l.kenb l.keys.algs;
  made : Made Term ℕ;
  found : made_at g.made l.station l.air ≡ Some made;
  algs : l.keys.algs ≡ made.algs;
  from : FromIs g made l.kenb made.from;
  had : HadTaken g.took l.station l.air l.kenb;
  heard : HeardFirst made l.bearers;
}

abbrev pub RadioOk : Ghost → Radio Term ℕ → Type 0
RadioOk g Idle = ⊤
RadioOk g (Connecting w) = (n : ℕ) × (w.kenb ≡ Kenb w.root n)
RadioOk g (Connected l) = LinkIs g l

-- the core's connection
abbrev pub CoreLinkOk : Ghost → Option (CoreLink Term ℕ) → Type 0
CoreLinkOk g None = ⊤
CoreLinkOk g (Some link) = record {
  conn : link.conn < g.next;
  number : link.chain.number ≡ g.top link.conn;
  root : link.chain.root ≡ g.root link.conn;
  sync : link.chain.sync ≡ chain_at g link.conn link.chain.number;
}

abbrev pub CoreOk : List Site → Ghost → Core Term ℕ → Type 0
CoreOk cells g core = CoreLinkOk g core.link × (core.next ≡ g.next) × (core.cells ≡ cells)

-- what an RRC text of a station says to the phone that has this key
abbrev pub SaysOk : Ghost → ℕ → Term → RrcRecord → Type 0
SaysOk g source t (Reconfiguration cell ncc algs station air) = OrderIs g source t cell ncc algs station air
SaysOk g source t (SecurityModeCommand algs station air) = record {
  made : Made Term ℕ;
  found : made_at g.made station air ≡ Some made;
  from : made.from ≡ BySetup;
  algs : made.algs ≡ algs;
}
SaysOk g source t (KeyChange cell algs station air) = ChangeIs g t cell algs station air
SaysOk g source t other = ⊤

abbrev pub TextOk : Ghost → ℕ → Term → List ℕ → Type 0
TextOk g source t text = (r : RrcRecord) → read_rrc text ≡ Ok r → SaysOk g source t r

-- how a text of a station is ciphered: under its own use, where the phone had taken the key; or not at all in the first
-- of a new connection
abbrev pub CipheredSo : Ghost → ℕ → ℕ → Made Term ℕ → Srb → KeyUse Term → Option (Ciphering Term) → Type 0
CipheredSo g station air m srb i None = (m.from ≡ BySetup) × (i.count ≡ 0) × (srb ≡ Signalling1)
CipheredSo g station air m srb i (Some e) =
    (e ≡ srb_ciphering Down (keys_of m.key m.algs) srb i.count)
    × HadTaken g.took station air m.key

-- an RRC text from a station: under the key made for the air address
abbrev pub DownOk : Ghost → ℕ → ℕ → Srb → KeyUse Term → Option (Ciphering Term) → List ℕ → Type 0
DownOk g station air srb i f text = record {
  made : Made Term ℕ;
  found : made_at g.made station air ≡ Some made;
  integrity : i ≡ srb_use Down (keys_of made.key made.algs).rrc_int srb i.count;
  ciphered : CipheredSo g station air made srb i f;
  says : TextOk g station made.key text;
}

-- a text of the phone is ciphered under its own use, or not at all in the first of a new connection
abbrev pub CipheredUp : Made Term ℕ → Term → Srb → KeyUse Term → Option (Ciphering Term) → Type 0
CipheredUp m t srb i None = (m.from ≡ BySetup) × (i.count ≡ 0) × (srb ≡ Signalling1)
CipheredUp m t srb i (Some e) = e ≡ srb_ciphering Up (keys_of t m.algs) srb i.count

abbrev pub SealedUp : Ghost → ℕ → ℕ → Term → Srb → KeyUse Term → Option (Ciphering Term) → Type 0
SealedUp g station air t srb i f = record {
  made : Made Term ℕ;
  found : made_at g.made station air ≡ Some made;
  integrity : i ≡ srb_use Up (keys_of t made.algs).rrc_int srb i.count;
  ciphered : CipheredUp made t srb i f;
}

-- and from the phone: under the key that it took there
abbrev pub UpOk : Ghost → ℕ → ℕ → Srb → KeyUse Term → Option (Ciphering Term) → Type 0
UpOk g station air srb i f = record {
  kenb : Term;
  key : i.key ≡ Alg kenb 4 eia2_identity;
  here : HereIs g station air kenb;
  had : HadTaken g.took station air kenb;
  sealed : SealedUp g station air kenb srb i f;
}

-- records on S1 and X2
abbrev pub AskedIs : Ghost → ℕ → ℕ → ℕ → Place → Handover Term ℕ → (Tried Term ℕ → Type 0) → Type 0
AskedIs g conn source attempt cell kind P = record {
  tried : Tried Term ℕ;
  found : tried_at g.tried source attempt ≡ Some tried;
  conn : tried.conn ≡ conn;
  cell : tried.cell ≡ cell;
  kind : tried.kind ≡ kind;
  so : P tried;
}

abbrev pub ToStationS1 : Address → ℕ → Type 0
ToStationS1 (StationS1 station) target = station ≡ target
ToStationS1 other target = ⊤

abbrev pub ToStationX2 : Address → ℕ → Type 0
ToStationX2 (StationX2 station) target = station ≡ target
ToStationX2 other target = ⊤

-- what was made of an attempt
abbrev pub AckIs : Ghost → ℕ → ℕ → Algs → ℕ → (Made Term ℕ → Type 0) → Type 0
AckIs g source attempt algs air P = record {
  made : Made Term ℕ;
  found : made_at g.made made.station air ≡ Some made;
  from : made.from ≡ ByAttempt (record { source = source; attempt = attempt });
  algs : made.algs ≡ algs;
  so : P made;
}

abbrev pub HasNcc : ℕ → Made Term ℕ → Type 0
HasNcc ncc m = ncc_of m.number ≡ ncc

abbrev pub CommandTo : Ghost → Address → ℕ → ℕ → Algs → ℕ → Type 0
CommandTo g (StationS1 source) attempt ncc algs air = AckIs g source attempt algs air (HasNcc ncc)
CommandTo g other attempt ncc algs air = ⊤

abbrev pub AnyMade : Made Term ℕ → Type 0
AnyMade m = ⊤

abbrev pub X2AckTo : Ghost → Address → ℕ → Algs → ℕ → Type 0
X2AckTo g (StationX2 source) attempt algs air = AckIs g source attempt algs air AnyMade
X2AckTo g other attempt algs air = ⊤

-- a request is for another station; on S1 it has a pair above the attempt's number
abbrev pub IsOther : Tried Term ℕ → Type 0
IsOther e = e.target ≡ e.station → ⊥

abbrev pub Surpasses : Address → ℕ → Tried Term ℕ → Type 0
Surpasses to number e = (e.number < number) × ToStationS1 to e.target × IsOther e

abbrev pub IsFor : Address → Tried Term ℕ → Type 0
IsFor to e = ToStationX2 to e.target × IsOther e

abbrev pub BetweenOk : Ghost → Address → Fields → Option (NumberedKey Term ℕ) → Type 0
BetweenOk g to (InitialContext conn cell caps) (Some key) =
    (conn < g.next) × (key.key ≡ chain_at g conn 0) × (key.number ≡ 0)
BetweenOk g to (PathSwitchAnswer conn number) (Some pair) = PairOk g conn pair
BetweenOk g to (HandoverRequired conn source attempt cell) key = AskedIs g conn source attempt cell ByTarget IsOther
BetweenOk g to (HandoverRequest conn source attempt cell caps) (Some pair) =
    PairOk g conn pair × AskedIs g conn source attempt cell ByTarget (Surpasses to pair.number)
BetweenOk g to (HandoverRequestAck conn source attempt cell ncc algs air) key =
    AckIs g source attempt algs air (HasNcc ncc)
BetweenOk g to (HandoverCommand conn attempt cell ncc algs air) key = CommandTo g to attempt ncc algs air
BetweenOk g to (X2Request conn source attempt cell caps) (Some star) =
    TermOk g conn star.key star.number
    × AskedIs g conn source attempt cell (BySource star) (IsFor to)
BetweenOk g to (X2Ack conn attempt cell algs air) key = X2AckTo g to attempt algs air
BetweenOk g to (ContextModification conn next) (Some key) = record {
  below : next < g.next;
  chain : key.key ≡ chain_at g next 0;
  root : Term;
  kenb : key.key ≡ Kenb root 0;
  number : key.number ≡ 0;
}
BetweenOk g to other key = ⊤

-- what goes up on NAS: a SECURITY MODE COMPLETE, of header type 4, is the first under its context (TS 24.301 4.4.3.1)
abbrev pub SentOk : Ghost → Outgoing Term ℕ → Type 0
SentOk g (SealedRrc Down station air srb i f text) = DownOk g station air srb i f text
SentOk g (SealedRrc Up station air srb i f text) = UpOk g station air srb i f
SentOk g (Between to fields key) = BetweenOk g to fields key
SentOk g (SealedNas Up header i f text) = header ≡ 4 → i.count ≡ 0
SentOk g other = ⊤

abbrev pub OutOk : Ghost → Option (Outgoing Term ℕ) → Type 0
OutOk g None = ⊤
OutOk g (Some x) = SentOk g x
