-- The phone: what it keeps (TS 24.301 4.4, TS 36.331 5.3, TS 33.401 6.2 and 7.2.8), in keys K and chain numbers C.
use Rattle.std.specs.Prelude.{ℕ, Bool, List, [], ◌∷◌, Option, None, option_map}
use Rattle.alg_choice.specs.{declared.algs.Algs.Algs, Algs.identity_of, Algs.eia2_identity, declared.caps.Caps.Caps}
use Rattle.rec_base.specs.declared.bearers.Bearer.{Bearer}
use Rattle.lte_events.specs.declared.acts.PhoneAct.{PhoneAct}
use Rattle.key_model.specs.{Reading.Reading, Derivation.Derivation, Derivation.alg_made}
use Rattle.nas_guard.specs.Keys.{Keys, map_keys}
use Rattle.nh_chain.specs.Chain.{ChainState, map_chain}
use Rattle.pdcp_guard.specs.AsKeys.{AsKeys, map_as_keys}
use Rattle.lte_machine.specs.Bearers.{Bearers}

-- KNASenc and KNASint of a KASME (TS 33.401 A.7)
abbrev pub nas_keys_of : {K C : Type 0} → Reading K C → K → Algs → Keys K
nas_keys_of r root algs =
    record { enc = r.alg root 1 (identity_of algs.eea); int = r.alg root 2 eia2_identity; algs = algs }

-- the derivations of KNASenc and KNASint, by rising type (TS 33.401 A.7)
abbrev pub nas_derivations : {K C : Type 0} → Reading K C → K → Algs → List (Derivation K)
nas_derivations r root algs = alg_made r root 1 (identity_of algs.eea) ∷ alg_made r root 2 eia2_identity ∷ []

-- a partial context: what an authentication left (TS 24.301 4.4.2)
pub record Partial (K : Type 0) : Type 0 where
  -- KSI, its name between phone and core
  pub ksi : ℕ
  -- KASME
  pub root : K

-- the NAS context in use (TS 24.301 4.4.3)
pub record NasContext (K : Type 0) : Type 0 where
  -- KASME
  pub root : K
  -- KNASenc and KNASint, with the algorithms
  pub keys : Keys K
  -- the next NAS COUNT to send with
  pub send : ℕ
  -- the next NAS COUNT expected
  pub receive : ℕ

-- a phone that waits for the security of its connection (TS 33.401 7.2.8.1.1)
pub record Waiting (K : Type 0) : Type 0 where
  -- KASME of its trigger
  pub root : K
  -- KeNB of it and of the COUNT of the trigger
  pub kenb : K

-- a connection
pub record Link (K C : Type 0) : Type 0 where
  -- the station
  pub station : ℕ
  -- the air address there
  pub air : ℕ
  -- the chain of NH and NCC
  pub chain : ChainState K C
  -- KeNB, or KeNB* since a handover
  pub kenb : K
  -- the keys of the access stratum, with the algorithms
  pub keys : AsKeys K
  -- the COUNTs of the bearers
  pub bearers : Bearers
  -- whether it came by a handover or a key change, whose Complete may be sent again
  pub by_handover : Bool

pub data Radio (K C : Type 0) : Type 0 where
  Idle : Radio K C
  Connecting : Waiting K → Radio K C
  Connected : Link K C → Radio K C

-- the phone
pub record Phone (K C : Type 0) : Type 0 where
  -- the algorithms that it supports
  pub caps : Caps
  -- what the latest authentication left
  pub partial : Option (Partial K)
  -- the NAS context in use
  pub context : Option (NasContext K)
  -- idle, waiting or connected
  pub radio : Radio K C

-- a phone that was never authenticated
abbrev pub first_phone : {K C : Type 0} → Caps → Phone K C
first_phone caps = record { caps = caps; partial = None; context = None; radio = Idle }

-- what a phone gets
pub data PhoneInput (K : Type 0) : Type 0 where
  -- an authentication: KSI and KASME
  PhoneAuth : ℕ → K → PhoneInput K
  PhoneActs : PhoneAct → PhoneInput K
  -- a NAS message
  PhoneNasPdu : List ℕ → PhoneInput K
  -- a PDU of a station and air address on a bearer
  PhoneAirPdu : ℕ → ℕ → Bearer → List ℕ → PhoneInput K

abbrev pub map_partial : {K L : Type 0} → (K → L) → Partial K → Partial L
map_partial f p = record { ksi = p.ksi; root = f p.root }

abbrev pub map_context : {K L : Type 0} → (K → L) → NasContext K → NasContext L
map_context f c = record { root = f c.root; keys = map_keys f c.keys; send = c.send; receive = c.receive }

abbrev pub map_waiting : {K L : Type 0} → (K → L) → Waiting K → Waiting L
map_waiting f w = record { root = f w.root; kenb = f w.kenb }

abbrev pub map_link : {K C L D : Type 0} → (K → L) → (C → D) → Link K C → Link L D
map_link f g l = record {
  station = l.station;
  air = l.air;
  chain = map_chain f g l.chain;
  kenb = f l.kenb;
  keys = map_as_keys f l.keys;
  bearers = l.bearers;
  by_handover = l.by_handover;
}

abbrev pub map_radio : {K C L D : Type 0} → (K → L) → (C → D) → Radio K C → Radio L D
map_radio f g Idle = Idle
map_radio f g (Connecting w) = Connecting (map_waiting f w)
map_radio f g (Connected l) = Connected (map_link f g l)

abbrev pub map_phone : {K C L D : Type 0} → (K → L) → (C → D) → Phone K C → Phone L D
map_phone f g p = record {
  caps = p.caps;
  partial = option_map (map_partial f) p.partial;
  context = option_map (map_context f) p.context;
  radio = map_radio f g p.radio;
}

abbrev pub map_phone_input : {K L : Type 0} → (K → L) → PhoneInput K → PhoneInput L
map_phone_input f (PhoneAuth ksi root) = PhoneAuth ksi (f root)
map_phone_input f (PhoneActs act) = PhoneActs act
map_phone_input f (PhoneNasPdu pdu) = PhoneNasPdu pdu
map_phone_input f (PhoneAirPdu station air bearer pdu) = PhoneAirPdu station air bearer pdu
