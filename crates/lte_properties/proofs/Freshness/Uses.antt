-- What holds of each use so far, beside the counters of its key's owner.
use Rattle.std.specs.Prelude.{◌≡◌, ℕ, ◌<◌, ◌≤◌, ◌==◌, Bool, true, false, if◌then◌else◌, List, [], ◌∷◌, Option, Some, IfSome, ⊤}
use Rattle.key_model.specs.Term.{Term, Root, Kenb, Nh, Star, Alg}
use Rattle.ho_prep.specs.Prep.{Prep}
use Rattle.lte_machine.specs.{Bearers.Bearers, Wire.KeyUse, StationState.Station, StationState.Context}
use Rattle.lte_machine.specs.PhoneState.{Partial, NasContext, Radio, Idle, Connecting, Connected, Phone}
use Rattle.lte_machine.specs.CoreState.{Core, CorePartial, CoreContext}
use Rattle.lte_properties.specs.ChainBelow.{AllOf}
use Rattle.lte_properties.proofs.Freshness.Sequence.{authentication_of}

-- where a KeNB belongs: a station, and the air address at which the phone took it or the connection that the core gave it
-- for
pub record Home : Type 0 where
  pub station : ℕ
  pub place : ℕ

-- the home at a place of a station
abbrev pub home_at : ℕ → ℕ → Home
home_at station place = record { station = station; place = place }

-- the homes of keys so far
abbrev pub Homes : Type 0
Homes = Term → Option Home

-- homes of keys are never lost
abbrev pub HomesStay : Homes → Homes → Type 0
HomesStay old new = (t : Term) (h : Home) → old t ≡ Some h → new t ≡ Some h

-- a KeNB*, which a handover made (TS 33.401 A.5)
abbrev pub is_star : Term → Bool
is_star (Star t pci earfcn) = true
is_star other = false

-- the home of a KeNB* is where the phone took it, and that of a KeNB where the core gave it
abbrev pub home_of : Bool → Option Home → Option Home → Option Home
home_of true taken given = taken
home_of false taken given = given

-- by the kind of the key
abbrev pub home : Homes → Homes → Term → Option Home
home taken given t = home_of (is_star t) (taken t) (given t)

-- no preparation waits at an air address
abbrev pub NoneWaits : ℕ → List (Prep Term ℕ) → Type 0
NoneWaits air preps = AllOf (λ p. p.air ≡ air → ⊥) preps

-- no context will come of a place of a station any more: an air address was drawn and nobody waits there; a connection is
-- not above the last
abbrev pub IsSpent : Bool → ℕ → ℕ → ℕ → List (Prep Term ℕ) → Type 0
IsSpent true air next last preps = (air < next) × NoneWaits air preps
IsSpent false conn next last preps = conn ≤ last

-- the next COUNT to send with, by the type of the key and BEARER: a DRB for type 5, else an SRB (TS 33.401 A.7)
abbrev pub srb_send : ℕ → Bearers → ℕ
srb_send bearer b = if bearer == 0 then b.srb1.send else b.srb2.send

-- of a DRB
abbrev pub drb_send : ℕ → Bearers → ℕ
drb_send bearer b =
    if bearer == 0 then b.drb1.send else (if bearer == 1 then b.drb2.send else (if bearer == 2 then b.drb3.send else b.drb4.send))

-- of a DRB or an SRB
abbrev pub send_on : Bool → ℕ → Bearers → ℕ
send_on true bearer b = drb_send bearer b
send_on false bearer b = srb_send bearer b

-- by the type of the key
abbrev pub next_on : ℕ → ℕ → Bearers → ℕ
next_on type bearer b = send_on (type == 5) bearer b

-- of an algorithm key, with the key that it comes from and its type; nothing else is used
abbrev pub OnKey : (Term → ℕ → Type 0) → Term → Type 0
OnKey P (Alg t type id) = P t type
OnKey P (Root r octets) = ⊥
OnKey P (Kenb r n) = ⊥
OnKey P (Nh r t) = ⊥
OnKey P (Star t pci earfcn) = ⊥

-- types 1 and 2 are keys of NAS, all others of the access stratum (TS 33.401 A.7)
abbrev pub IsNas : ℕ → Type 0
IsNas type = type < 3

-- a type of the access stratum
abbrev pub IsAs : ℕ → Type 0
IsAs type = 3 ≤ type

-- THE PHONE'S, which are uplink

-- a NAS key of this KASME was used with this COUNT: where the KASME is the present one, its next COUNT is above
abbrev pub NasUp : ℕ → Option (Partial Term) → Option (NasContext Term) → Term → ℕ → Type 0
NasUp roots partial context t count =
    (authentication_of t < roots) × IfSome partial (λ p. t ≡ p.root → ⊥) × IfSome context (λ c. t ≡ c.root → count < c.send)

-- a key of this KeNB was used: where the KeNB is the present one, the bearer's next COUNT is above
abbrev pub LinkAbove : Radio Term ℕ → Term → ℕ → ℕ → ℕ → Type 0
LinkAbove Idle t type count bearer = ⊤
LinkAbove (Connecting w) t type count bearer = ⊤
LinkAbove (Connected l) t type count bearer = t ≡ l.kenb → count < next_on type bearer l.bearers

-- and the phone had taken it
abbrev pub AsUp : Homes → Radio Term ℕ → Term → ℕ → ℕ → ℕ → Type 0
AsUp taken radio t type count bearer = (h : Home) × (taken t ≡ Some h) × LinkAbove radio t type count bearer

-- a use of the phone
abbrev pub UpUse : ℕ → Homes → Phone Term ℕ → KeyUse Term → Type 0
UpUse roots taken s u =
    OnKey (λ t type. (IsNas type → NasUp roots s.partial s.context t u.count) × (IsAs type → AsUp taken s.radio t type u.count u.bearer)) u.key

-- THE CORE'S, which are downlink

-- a NAS key of this KASME was used: where it is that of the partial context or of the one in use, the next COUNT is above
abbrev pub NasDown : ℕ → Option (CorePartial Term) → Option (CoreContext Term) → Term → ℕ → Type 0
NasDown roots partial context t count =
    (authentication_of t < roots) × IfSome partial (λ p. t ≡ p.root → count < p.send) × IfSome context (λ c. t ≡ c.nas.root → count < c.nas.send)

-- a use of the core
abbrev pub CoreUse : ℕ → Core Term ℕ → KeyUse Term → Type 0
CoreUse roots s u = OnKey (λ t type. IsNas type → NasDown roots s.partial s.context t u.count) u.key

-- A STATION'S, which are downlink

-- where the KeNB is the one of the context, the bearer's next COUNT is above
abbrev pub ContextAhead : Option (Context Term ℕ) → Term → ℕ → ℕ → ℕ → Type 0
ContextAhead context t type count bearer = IfSome context (λ c. t ≡ c.key.kenb → count < next_on type bearer c.bearers)

-- it has a home, and where that is this station the place is spent
abbrev pub AsDown : Homes → Homes → Station Term ℕ → Term → ℕ → ℕ → ℕ → Type 0
AsDown taken given s t type count bearer = record {
  at : Home;
  is : home taken given t ≡ Some at;
  spent : at.station ≡ s.id → IsSpent (is_star t) at.place s.next s.last s.preps;
  ahead : ContextAhead s.context t type count bearer;
}

-- a use beside a station
abbrev pub StationUse : Homes → Homes → Station Term ℕ → KeyUse Term → Type 0
StationUse taken given s u = OnKey (λ t type. IsAs type → AsDown taken given s t type u.count u.bearer) u.key

-- ALL

-- each use differs from all before it
abbrev pub AllApart : List (KeyUse Term) → Type 0
AllApart [] = ⊤
AllApart (u ∷ us) = AllOf (λ v. v ≡ u → ⊥) us × AllApart us
