-- The core: what it keeps of the phone (TS 24.301 4.4 and 5.4.3, TS 33.401 7.2.8), in keys K and chain numbers C.
use Rattle.std.specs.Prelude.{ℕ, List, replicate, Option, None, option_map, Result}
use Rattle.alg_choice.specs.{declared.algs.Eea.Eea, declared.caps.Caps.Caps}
use Rattle.rec_base.specs.declared.faults.RecFault.{RecFault}
use Rattle.lte_events.specs.{declared.acts.CoreAct.CoreAct, declared.setups.FirstNcc.FirstNcc, Site.Site}
use Rattle.nas_guard.specs.Keys.{Keys, map_keys}
use Rattle.nh_chain.specs.Chain.{ChainState, map_chain}
use Rattle.s1x2_rec.specs.Content.{Content}
use Rattle.lte_machine.specs.{PhoneState.NasContext, PhoneState.map_context, StationState.map_read}

-- a partial context: what an authentication left (TS 24.301 4.4.2)
pub record CorePartial (K : Type 0) : Type 0 where
  -- KSI, its name between phone and core
  pub ksi : ℕ
  -- KASME
  pub root : K
  -- the capabilities of the phone
  pub caps : Caps
  -- the next downlink NAS COUNT
  pub send : ℕ

-- the NAS context in use
pub record CoreContext (K : Type 0) : Type 0 where
  -- keys and COUNTs
  pub nas : NasContext K
  -- the capabilities of the phone that it was made with
  pub caps : Caps

-- a connection
pub record CoreLink (K C : Type 0) : Type 0 where
  -- its number
  pub conn : ℕ
  -- the chain of NH and NCC
  pub chain : ChainState K C
  -- the station where the phone is
  pub station : ℕ

-- the core
pub record Core (K C : Type 0) : Type 0 where
  -- all cells with their stations
  pub cells : List Site
  -- its list of encryption algorithms, the first the best
  pub priority : List Eea
  -- the NCC of the first pair that it sends for a chain
  pub first_ncc : FirstNcc
  -- the capabilities of the latest authentication
  pub latest : Caps
  -- what the latest authentication left
  pub partial : Option (CorePartial K)
  -- the keys of the Security Mode procedure that is open
  pub procedure : Option (Keys K)
  -- the NAS context in use
  pub context : Option (CoreContext K)
  -- the uplink NAS COUNT that triggers a connection
  pub trigger : Option ℕ
  -- the next connection number
  pub next : ℕ
  -- the connection
  pub link : Option (CoreLink K C)
  -- of each station the greatest attempt seen
  pub attempts : List ℕ
  -- of each station the greatest path switch request seen
  pub requests : List ℕ

-- a core that has authenticated nobody
abbrev pub first_core : {K C : Type 0} → List Site → List Eea → ℕ → FirstNcc → Core K C
first_core cells priority first first_ncc = record {
  cells = cells;
  priority = priority;
  first_ncc = first_ncc;
  latest = record { eea = 0; eia = 0 };
  partial = None;
  procedure = None;
  context = None;
  trigger = None;
  next = first;
  link = None;
  attempts = replicate 8 0;
  requests = replicate 8 0;
}

-- what the core gets
pub data CoreInput (K C : Type 0) : Type 0 where
  -- an authentication: KSI, KASME, capabilities
  CoreAuth : ℕ → K → Caps → CoreInput K C
  CoreActs : CoreAct → CoreInput K C
  -- a NAS message
  CoreNasPdu : List ℕ → CoreInput K C
  -- a record on S1, as it reads
  CoreRecord : Result (Content K C) RecFault → CoreInput K C

abbrev pub map_core_partial : {K L : Type 0} → (K → L) → CorePartial K → CorePartial L
map_core_partial f p = record { ksi = p.ksi; root = f p.root; caps = p.caps; send = p.send }

abbrev pub map_core_context : {K L : Type 0} → (K → L) → CoreContext K → CoreContext L
map_core_context f c = record { nas = map_context f c.nas; caps = c.caps }

abbrev pub map_core_link : {K C L D : Type 0} → (K → L) → (C → D) → CoreLink K C → CoreLink L D
map_core_link f g l = record { conn = l.conn; chain = map_chain f g l.chain; station = l.station }

abbrev pub map_core : {K C L D : Type 0} → (K → L) → (C → D) → Core K C → Core L D
map_core f g c = record {
  cells = c.cells;
  priority = c.priority;
  first_ncc = c.first_ncc;
  latest = c.latest;
  partial = option_map (map_core_partial f) c.partial;
  procedure = option_map (map_keys f) c.procedure;
  context = option_map (map_core_context f) c.context;
  trigger = c.trigger;
  next = c.next;
  link = option_map (map_core_link f g) c.link;
  attempts = c.attempts;
  requests = c.requests;
}

abbrev pub map_core_input : {K C L D : Type 0} → (K → L) → (C → D) → CoreInput K C → CoreInput L D
map_core_input f g (CoreAuth ksi root caps) = CoreAuth ksi (f root) caps
map_core_input f g (CoreActs act) = CoreActs act
map_core_input f g (CoreNasPdu pdu) = CoreNasPdu pdu
map_core_input f g (CoreRecord read) = CoreRecord (map_read f g read)
