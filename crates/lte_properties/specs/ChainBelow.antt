-- The chain numbers of all that the core, the stations and the records in flight hold of a connection, beside the core's own
-- number for it (TS 33.401 7.2.8).
use Rattle.std.specs.Prelude.{◌≡◌, ℕ, ◌≤◌, ◌<◌, Option, Some, None, ⊤}
pub use Rattle.std.specs.List.{AllByRecursion as AllOf}
use Rattle.key_model.specs.{Term.Term, HandoverTable.NumberedKey}
use Rattle.s1x2_rec.specs.Fields.{Fields, InitialContext, ContextRelease, PathSwitchRequest, PathSwitchAnswer, HandoverRequired, HandoverRequest, HandoverRequestAck, HandoverCommand, HandoverNotify, HandoverCancel, X2Request, X2Ack, X2Cancel, X2Release, ContextModification}
use Rattle.ho_prep.specs.Prep.{Prep}
use Rattle.lte_machine.specs.{Wire.Outgoing, Wire.Between, StationKeys.spent_in, CoreState.Core, CoreState.CoreLink}
use Rattle.lte_machine.specs.StationState.{Station, Context, Attempt, SourceKeys}

-- P holds of a pair's number, if there is a pair
abbrev pub OfPair : (ℕ → Type 0) → Option (NumberedKey Term ℕ) → Type 0
OfPair P None = ⊤
OfPair P (Some pair) = P pair.number

-- the KeNB* that an attempt keeps for its target
abbrev pub star_of : Option (SourceKeys Term ℕ) → Option (NumberedKey Term ℕ)
star_of None = None
star_of (Some keys) = Some keys.star

abbrev pub star_in : Option (Attempt Term ℕ) → Option (NumberedKey Term ℕ)
star_in None = None
star_in (Some a) = star_of a.keys

-- each number of a context is so: of its term, of its stored pair, of its attempt's KeNB* and of the attempt's pair
abbrev pub EachNumber : (ℕ → Type 0) → Context Term ℕ → Type 0
EachNumber P c = P c.key.number × OfPair P c.key.pair × OfPair P (star_in c.attempt) × OfPair P (spent_in c.attempt)

abbrev pub AtMost : ℕ → ℕ → Type 0
AtMost limit n = n ≤ limit

abbrev pub IsUnder : ℕ → ℕ → Type 0
IsUnder limit n = n < limit

abbrev pub IsAbove : ℕ → ℕ → Type 0
IsAbove low n = low < n

-- the context's numbers are at most the core's number for its connection; `top` gives that number, or the last one
abbrev pub ContextBelow : (ℕ → ℕ) → Option (Context Term ℕ) → Type 0
ContextBelow top None = ⊤
ContextBelow top (Some c) = EachNumber (AtMost (top c.conn)) c

abbrev pub PrepBelow : (ℕ → ℕ) → Prep Term ℕ → Type 0
PrepBelow top p = p.key.number ≤ top p.conn

-- and so are those of a station's context and preparations
abbrev pub StationBelow : (ℕ → ℕ) → Station Term ℕ → Type 0
StationBelow top s = ContextBelow top s.context × AllOf (PrepBelow top) s.preps

-- the connection of a record on S1 or X2; of a Context Modification it is the next one
abbrev pub conn_of : Fields → ℕ
conn_of (InitialContext conn cell caps) = conn
conn_of (ContextRelease conn) = conn
conn_of (PathSwitchRequest conn station number cell caps) = conn
conn_of (PathSwitchAnswer conn number) = conn
conn_of (HandoverRequired conn station attempt cell) = conn
conn_of (HandoverRequest conn source attempt cell caps) = conn
conn_of (HandoverRequestAck conn source attempt cell ncc algs air) = conn
conn_of (HandoverCommand conn attempt cell ncc algs air) = conn
conn_of (HandoverNotify conn station cell) = conn
conn_of (HandoverCancel conn source attempt cell) = conn
conn_of (X2Request conn source attempt cell caps) = conn
conn_of (X2Ack conn attempt cell algs air) = conn
conn_of (X2Cancel conn source attempt) = conn
conn_of (X2Release conn attempt) = conn
conn_of (ContextModification conn next) = next

-- a record in flight has no number above it
abbrev pub RecordBelow : (ℕ → ℕ) → Outgoing Term ℕ → Type 0
RecordBelow top (Between to fields (Some key)) = key.number ≤ top (conn_of fields)
RecordBelow top other = ⊤

-- the core's number for its connection is that number, and the connection was drawn
abbrev pub LinkTop : (ℕ → ℕ) → ℕ → Option (CoreLink Term ℕ) → Type 0
LinkTop top next None = ⊤
LinkTop top next (Some link) = (link.chain.number ≡ top link.conn) × (link.conn < next)

-- and of a connection that is not drawn yet it is 0
abbrev pub CoreTop : (ℕ → ℕ) → Core Term ℕ → Type 0
CoreTop top core = LinkTop top core.next core.link × ((conn : ℕ) → core.next ≤ conn → top conn ≡ 0)
