-- What holds in every world of every run, so that no key is used twice with one COUNT: how the keys that phone, core and
-- stations have stand to those that were taken, given and used before (TS 33.401 7.2.6.2 and 7.2.8).
use Rattle.std.specs.Prelude.{◌≡◌, ℕ, ◌<◌, ◌≤◌, ◌⊎◌, true, false, Option, Some, None, option_map, IfSome, ⊤}
use Rattle.rec_base.specs.declared.uses.Dir.TheVariants.{Up, Down}
use Rattle.lte_events.specs.{declared.addresses.Address.Address, declared.addresses.Address.TheVariants.StationS1}
use Rattle.key_model.specs.{Term.Term, Reading.term_reading, HandoverTable.NumberedKey}
use Rattle.nas_guard.specs.Keys.{Keys}
use Rattle.pdcp_guard.specs.AsKeys.{AsKeys, as_keys_of}
use Rattle.s1x2_rec.specs.Fields.{Fields, InitialContext, X2Request}
use Rattle.ho_prep.specs.Prep.{Prep}
use Rattle.lte_machine.specs.Wire.{Outgoing, SealedRrc, Between}
use Rattle.lte_machine.specs.PhoneState.{nas_keys_of, Partial, NasContext, Radio, Idle, Connecting, Connected, Phone}
use Rattle.lte_machine.specs.{StationState.Station, StationState.Context, World.World, World.next_root}
use Rattle.lte_machine.specs.CoreState.{Core, CorePartial, CoreContext}
use Rattle.lte_properties.specs.{ChainBelow.AllOf, Origins.nas_count_of}
use Rattle.lte_properties.proofs.Freshness.Sequence.{authentication_of, IsBefore, IsNotAfter, IsLevel}
use Rattle.lte_properties.proofs.Freshness.Uses.{Home, home_at, Homes, is_star, home, IsSpent, OnKey, UpUse, CoreUse, StationUse, AllApart}

-- KASMES

-- the KASMEs of a partial context and of the context in use, by their authentications: all of the run so far, the partial
-- one the newer
abbrev pub RootsStand : ℕ → Option ℕ → Option ℕ → Type 0
RootsStand roots partial context =
    IfSome partial (λ p. p < roots) × IfSome context (λ c. (c < roots) × IfSome partial (λ p. c < p))

-- the next KeNB at the earliest: authentication and NAS COUNT
pub record Mark : Type 0 where
  pub root : ℕ
  pub count : ℕ

-- a key comes before every KeNB that is still to be made
abbrev pub IsPast : ℕ → Option ℕ → Option Mark → Term → Type 0
IsPast roots partial mark t =
    (authentication_of t < roots) × IfSome partial (λ p. authentication_of t < p)
    × IfSome mark (λ k. (authentication_of t ≤ k.root) × (authentication_of t ≡ k.root → nas_count_of t < k.count))

-- the keys are derived of this KASME, or of this KeNB (TS 33.401 A.7)
abbrev pub NasKeysOf : Term → Keys Term → Type 0
NasKeysOf root keys = keys ≡ nas_keys_of term_reading root keys.algs

-- the keys of the access stratum
abbrev pub AsKeysOf : Term → AsKeys Term → Type 0
AsKeysOf kenb keys = keys ≡ as_keys_of term_reading kenb keys.algs

-- THE PHONE

-- the authentication of the partial context
abbrev pub partial_root : Option (Partial Term) → Option ℕ
partial_root partial = option_map (λ p. authentication_of p.root) partial

-- and of the context in use
abbrev pub context_root : Option (NasContext Term) → Option ℕ
context_root context = option_map (λ c. authentication_of c.root) context

-- the phone's next KeNB at the earliest
abbrev pub phone_mark : Option (NasContext Term) → Option Mark
phone_mark context = option_map (λ c. record { root = authentication_of c.root; count = c.send }) context

-- all that was taken comes before the KeNB that a phone waits with, and not after the one that it is connected with
abbrev pub RadioStands : ℕ → Option ℕ → Option Mark → Homes → Radio Term ℕ → Type 0
RadioStands roots partial mark taken Idle = ⊤
RadioStands roots partial mark taken (Connecting w) =
    IsPast roots partial mark w.kenb × ((t : Term) (h : Home) → taken t ≡ Some h → IsBefore t w.kenb)
RadioStands roots partial mark taken (Connected l) = record {
  here : taken l.kenb ≡ Some (home_at l.station l.air);
  level : IsLevel l.kenb l.chain.sync;
  keys : AsKeysOf l.kenb l.keys;
  latest : (t : Term) (h : Home) → taken t ≡ Some h → IsNotAfter t l.kenb;
}

-- the KASME of a connection is that of its KeNB; beside a NAS context in use it is that of the context, or of an older
-- authentication
abbrev pub KeyOlder : Term → Term → Option Term → Type 0
KeyOlder root kenb now =
    (authentication_of root ≡ authentication_of kenb)
    × IfSome now (λ k. (root ≡ k) ⊎ (authentication_of root < authentication_of k))

abbrev pub RadioOlder : Radio Term ℕ → Option Term → Type 0
RadioOlder Idle now = ⊤
RadioOlder (Connecting w) now = KeyOlder w.root w.kenb now
RadioOlder (Connected l) now = KeyOlder l.chain.root l.kenb now

-- the KASME of the NAS context in use
abbrev pub kasme_in_use : Option (NasContext Term) → Option Term
kasme_in_use context = option_map (λ c. c.root) context

-- the phone
abbrev pub PhoneStands : ℕ → Homes → Phone Term ℕ → Type 0
PhoneStands roots taken s = record {
  kasmes : RootsStand roots (partial_root s.partial) (context_root s.context);
  keys : IfSome s.context (λ c. NasKeysOf c.root c.keys);
  past : (t : Term) (h : Home) → taken t ≡ Some h → IsPast roots (partial_root s.partial) (phone_mark s.context) t;
  radio : RadioStands roots (partial_root s.partial) (phone_mark s.context) taken s.radio;
  older : RadioOlder s.radio (kasme_in_use s.context);
  sent : IfSome s.context (λ c. 1 ≤ c.send);
}

-- THE CORE

-- the authentication of the partial context
abbrev pub core_partial_root : Option (CorePartial Term) → Option ℕ
core_partial_root partial = option_map (λ p. authentication_of p.root) partial

-- and of the context in use
abbrev pub core_context_root : Option (CoreContext Term) → Option ℕ
core_context_root context = option_map (λ c. authentication_of c.nas.root) context

-- the COUNT of the trigger, or the next one that may be a trigger
abbrev pub due : Option ℕ → ℕ → ℕ
due None receive = receive
due (Some count) receive = count

-- the core's next KeNB at the earliest
abbrev pub core_mark : Option ℕ → Option (CoreContext Term) → Option Mark
core_mark trigger context = option_map (λ c. record { root = authentication_of c.nas.root; count = due trigger c.nas.receive }) context

-- the core
abbrev pub CoreStands : ℕ → Homes → Core Term ℕ → Type 0
CoreStands roots given s = record {
  kasmes : RootsStand roots (core_partial_root s.partial) (core_context_root s.context);
  keys : IfSome s.context (λ c. NasKeysOf c.nas.root c.nas.keys);
  procedure : IfSome s.procedure (λ keys. IfSome s.partial (λ p. NasKeysOf p.root keys));
  trigger : IfSome s.trigger (λ count. IfSome s.context (λ c. count < c.nas.receive));
  past : (t : Term) (h : Home) → given t ≡ Some h → IsPast roots (core_partial_root s.partial) (core_mark s.trigger s.context) t;
}

-- A STATION

-- a context's KeNB has its home here, at a place that is spent
abbrev pub Sits : Homes → Homes → Station Term ℕ → Term → AsKeys Term → Type 0
Sits taken given s kenb keys = record {
  at : Home;
  is : home taken given kenb ≡ Some at;
  here : at.station ≡ s.id;
  spent : IsSpent (is_star kenb) at.place s.next s.last s.preps;
  keys : AsKeysOf kenb keys;
}

abbrev pub ContextStands : Homes → Homes → Station Term ℕ → Context Term ℕ → Type 0
ContextStands taken given s c = Sits taken given s c.key.kenb c.keys

-- a preparation has a KeNB*, its keys, and an air address that was drawn
abbrev pub PrepStands : ℕ → Prep Term ℕ → Type 0
PrepStands next p = (is_star p.key.kenb ≡ true) × AsKeysOf p.key.kenb p.keys × (p.air < next)

-- a station
abbrev pub StationStands : Homes → Homes → Station Term ℕ → Type 0
StationStands taken given s = IfSome s.context (ContextStands taken given s) × AllOf (PrepStands s.next) s.preps

-- RECORDS

-- the phone sends to the station and air address where it took the key; the core gives a KeNB to its home on S1; a request on
-- X2 has a KeNB*
abbrev pub BetweenStands : Homes → Address → Fields → Option (NumberedKey Term ℕ) → Type 0
BetweenStands given to (InitialContext conn cell caps) (Some key) = record {
  station : ℕ;
  is_to : to ≡ StationS1 station;
  here : given key.key ≡ Some (home_at station conn);
  no_star : is_star key.key ≡ false;
}
BetweenStands given to (X2Request conn source attempt cell caps) (Some key) = is_star key.key ≡ true
BetweenStands given to other key = ⊤

-- by the kind of the record
abbrev pub RecordStands : Homes → Homes → Outgoing Term ℕ → Type 0
RecordStands taken given (SealedRrc Up station air srb u e text) = OnKey (λ t type. taken t ≡ Some (home_at station air)) u.key
RecordStands taken given (Between to fields key) = BetweenStands given to fields key
RecordStands taken given other = ⊤

-- A WORLD

-- of all
pub record Fresh (w : World Term ℕ (Outgoing Term ℕ)) : Type 0 where
  pub roots : ℕ
  pub taken : Homes
  pub given : Homes
  pub counted : next_root w ≡ roots
  pub phone : PhoneStands roots taken w.phone
  pub core : CoreStands roots given w.core
  pub stations : AllOf (StationStands taken given) w.stations
  pub up : AllOf (λ u. u.dir ≡ Up → UpUse roots taken w.phone u) w.uses
  pub nas : AllOf (λ u. u.dir ≡ Down → CoreUse roots w.core u) w.uses
  pub down : AllOf (λ s. AllOf (λ u. u.dir ≡ Down → StationUse taken given s u) w.uses) w.stations
  pub sent : AllOf (RecordStands taken given) w.sent
  pub took : AllOf (λ x. taken x.key ≡ Some (home_at x.station x.air)) w.took
  pub apart : AllApart w.uses
