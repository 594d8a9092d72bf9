-- All keys of a world: what the phone, the stations and the core hold, what was sent, and what was used.
use Rattle.std.specs.Prelude.{ℕ, Option, Some, None}
use Rattle.std.specs.List.{AllByRecursion as AllOf}
use Rattle.key_model.specs.{Term.Term, HandoverTable.NumberedKey}
use Rattle.nas_guard.specs.Keys.{Keys}
use Rattle.nh_chain.specs.{Chain.ChainState, Station.StationKey}
use Rattle.pdcp_guard.specs.AsKeys.{AsKeys}
use Rattle.ho_prep.specs.Prep.{Prep}
use Rattle.lte_machine.specs.Wire.{Ciphering, Outgoing, SealedNas, PlainNas, SealedRrc, UserPacket, Between}
use Rattle.lte_machine.specs.PhoneState.{Partial, NasContext, Radio, Idle, Connecting, Connected, Phone}
use Rattle.lte_machine.specs.StationState.{Station, Context, Attempt, SourceKeys}
use Rattle.lte_machine.specs.CoreState.{Core, CorePartial, CoreContext, CoreLink}
use Rattle.lte_machine.specs.{World.World, Distinct.keys_of, Distinct.Member}

-- each of the three keys of the access stratum is so, and each of the two NAS keys (TS 33.401 6.2)
abbrev pub AsKnown : (Term → Type 0) → AsKeys Term → Type 0
AsKnown P keys = P keys.rrc_enc × P keys.rrc_int × P keys.up_enc

abbrev pub NasKnown : (Term → Type 0) → Keys Term → Type 0
NasKnown P keys = P keys.enc × P keys.int

-- KASME and SYNC-input of a chain (TS 33.401 7.2.8.1.1)
abbrev pub ChainKnown : (Term → Type 0) → ChainState Term ℕ → Type 0
ChainKnown P chain = P chain.root × P chain.sync

-- a key with its number, if there is one
abbrev pub PairKnown : (Term → Type 0) → Option (NumberedKey Term ℕ) → Type 0
PairKnown P None = Unit {0}
PairKnown P (Some pair) = P pair.key

-- the phone
abbrev pub PartialKnown : (Term → Type 0) → Option (Partial Term) → Type 0
PartialKnown P None = Unit {0}
PartialKnown P (Some p) = P p.root

abbrev pub NasContextKnown : (Term → Type 0) → Option (NasContext Term) → Type 0
NasContextKnown P None = Unit {0}
NasContextKnown P (Some c) = P c.root × NasKnown P c.keys

abbrev pub RadioKnown : (Term → Type 0) → Radio Term ℕ → Type 0
RadioKnown P Idle = Unit {0}
RadioKnown P (Connecting w) = P w.root × P w.kenb
RadioKnown P (Connected l) = ChainKnown P l.chain × P l.kenb × AsKnown P l.keys

abbrev pub PhoneKnown : (Term → Type 0) → Phone Term ℕ → Type 0
PhoneKnown P s = PartialKnown P s.partial × NasContextKnown P s.context × RadioKnown P s.radio

-- a station
abbrev pub StationKeyKnown : (Term → Type 0) → StationKey Term ℕ → Type 0
StationKeyKnown P key = P key.kenb × PairKnown P key.pair

abbrev pub SourceKeysKnown : (Term → Type 0) → Option (SourceKeys Term ℕ) → Type 0
SourceKeysKnown P None = Unit {0}
SourceKeysKnown P (Some keys) = P keys.star.key × PairKnown P keys.spent

abbrev pub AttemptKnown : (Term → Type 0) → Option (Attempt Term ℕ) → Type 0
AttemptKnown P None = Unit {0}
AttemptKnown P (Some a) = SourceKeysKnown P a.keys

abbrev pub ContextKnown : (Term → Type 0) → Option (Context Term ℕ) → Type 0
ContextKnown P None = Unit {0}
ContextKnown P (Some c) = StationKeyKnown P c.key × AsKnown P c.keys × AttemptKnown P c.attempt

abbrev pub PrepKnown : (Term → Type 0) → Prep Term ℕ → Type 0
PrepKnown P p = StationKeyKnown P p.key × AsKnown P p.keys

abbrev pub StationKnown : (Term → Type 0) → Station Term ℕ → Type 0
StationKnown P s = ContextKnown P s.context × AllOf (PrepKnown P) s.preps

-- the core
abbrev pub CorePartialKnown : (Term → Type 0) → Option (CorePartial Term) → Type 0
CorePartialKnown P None = Unit {0}
CorePartialKnown P (Some p) = P p.root

abbrev pub ProcedureKnown : (Term → Type 0) → Option (Keys Term) → Type 0
ProcedureKnown P None = Unit {0}
ProcedureKnown P (Some keys) = NasKnown P keys

abbrev pub CoreContextKnown : (Term → Type 0) → Option (CoreContext Term) → Type 0
CoreContextKnown P None = Unit {0}
CoreContextKnown P (Some c) = P c.nas.root × NasKnown P c.nas.keys

abbrev pub LinkKnown : (Term → Type 0) → Option (CoreLink Term ℕ) → Type 0
LinkKnown P None = Unit {0}
LinkKnown P (Some link) = ChainKnown P link.chain

abbrev pub CoreKnown : (Term → Type 0) → Core Term ℕ → Type 0
CoreKnown P s = CorePartialKnown P s.partial × ProcedureKnown P s.procedure × CoreContextKnown P s.context × LinkKnown P s.link

-- a record that was sent: its uses, and the key in it
abbrev pub CipheringKnown : (Term → Type 0) → Option (Ciphering Term) → Type 0
CipheringKnown P None = Unit {0}
CipheringKnown P (Some e) = P e.under.key

abbrev pub SentKnown : (Term → Type 0) → Outgoing Term ℕ → Type 0
SentKnown P (SealedNas dir header u e text) = P u.key × CipheringKnown P e
SentKnown P (PlainNas octets) = Unit {0}
SentKnown P (SealedRrc dir station air srb u e text) = P u.key × CipheringKnown P e
SentKnown P (UserPacket dir station air drb e text) = P e.under.key
SentKnown P (Between to fields key) = PairKnown P key

-- a key of an authentication or of a derivation that was reported
abbrev pub IsReported : World Term ℕ (Outgoing Term ℕ) → Term → Type 0
IsReported w t = Member t (keys_of w.history)

-- every key of the world was reported
pub record AllReported (w : World Term ℕ (Outgoing Term ℕ)) : Type 0 where
  pub phone : PhoneKnown (IsReported w) w.phone
  pub core : CoreKnown (IsReported w) w.core
  pub stations : AllOf (StationKnown (IsReported w)) w.stations
  pub sent : AllOf (SentKnown (IsReported w)) w.sent
  pub uses : AllOf (λ u. IsReported w u.key) w.uses
  pub held : AllOf (λ h. IsReported w h.key) w.held
