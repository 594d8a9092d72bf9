-- A base station: what it keeps of the phone (TS 33.401 7.2.8, TS 36.331 5.3, TS 36.423), in keys K and chain numbers C.
use Rattle.std.specs.Prelude.{ℕ, Bool, List, [], map, replicate, Option, None, option_map, Result, Ok, Err}
use Rattle.alg_choice.specs.{declared.algs.Algs.Algs, declared.algs.Eea.Eea, declared.caps.Caps.Caps}
use Rattle.annex_a_keys.specs.Cell.{Place}
use Rattle.rec_base.specs.{declared.bearers.Bearer.Bearer, declared.faults.RecFault.RecFault}
use Rattle.lte_events.specs.{declared.acts.StationAct.StationAct, Site.Site}
use Rattle.key_model.specs.{HandoverTable.NumberedKey, HandoverLines.map_numbered}
use Rattle.nh_chain.specs.Station.{StationKey, map_station_key, map_pair}
use Rattle.pdcp_guard.specs.AsKeys.{AsKeys, map_as_keys}
use Rattle.ho_prep.specs.Prep.{Prep, map_prep}
use Rattle.x2_handover.specs.declared.orders.Order.{Order}
use Rattle.s1x2_rec.specs.Content.{Content, map_content}
use Rattle.lte_machine.specs.{Bearers.Bearers, Reply.Origin}

-- which way an attempt goes: a handover over X2, over S1 or within the station, or a change of the context's key
pub data Via : Type 0 where
  OverX2 OverS1 Within Renewing : Via

-- how far an attempt is
pub data Progress : Type 0 where
  -- its target has not answered
  Open : Progress
  -- the target has, by which this order for the phone is known
  Ready : Order → Progress
  -- the order was sent
  Commanded : Order → Progress

-- what the source of a handover over X2, or within the station, keeps until the order is sent
pub record SourceKeys (K C : Type 0) : Type 0 where
  -- KeNB* for the target
  pub star : NumberedKey K C
  -- the pair of NH and NCC that was used for it, if one was
  pub spent : Option (NumberedKey K C)

-- an attempt at a handover, or at a change of the context's key, whose order is sent at once
pub record Attempt (K C : Type 0) : Type 0 where
  -- its number
  pub number : ℕ
  -- the target station, and the target cell
  pub station : ℕ
  pub cell : Place
  -- which way it goes
  pub via : Via
  -- what the source keeps for it
  pub keys : Option (SourceKeys K C)
  -- how far it is
  pub progress : Progress

-- the context of the phone
pub record Context (K C : Type 0) : Type 0 where
  -- the number of the connection
  pub conn : ℕ
  -- the cell
  pub cell : Place
  -- the air address
  pub air : ℕ
  -- KeNB or KeNB*, and the stored pair
  pub key : StationKey K C
  -- the algorithms chosen
  pub algs : Algs
  -- the keys of the access stratum
  pub keys : AsKeys K
  -- the capabilities of the phone
  pub caps : Caps
  -- whether its security still starts
  pub starting : Bool
  -- the COUNTs of the bearers
  pub bearers : Bearers
  -- its attempt
  pub attempt : Option (Attempt K C)
  -- the path switch request whose answer is outstanding
  pub outstanding : Option ℕ
  -- the attempt of the X2 handover that it came by
  pub origin : Option Origin

-- a station
pub record Station (K C : Type 0) : Type 0 where
  -- its number
  pub id : ℕ
  -- all cells with their stations
  pub cells : List Site
  -- its list of encryption algorithms, the first the best
  pub priority : List Eea
  -- the next number that it draws
  pub next : ℕ
  -- the greatest connection number
  pub last : ℕ
  -- of each source the greatest attempt seen
  pub seen : List ℕ
  -- the context of the phone
  pub context : Option (Context K C)
  -- its preparations
  pub preps : List (Prep K C)

-- a station that has served nobody
abbrev pub first_station : {K C : Type 0} → ℕ → List Site → List Eea → ℕ → Station K C
first_station id cells priority first = record {
  id = id;
  cells = cells;
  priority = priority;
  next = first;
  last = 0;
  seen = replicate 8 0;
  context = None;
  preps = [];
}

-- the interfaces of its records
pub data Interface : Type 0 where
  OnS1 OnX2 : Interface

-- what a station gets
pub data StationInput (K C : Type 0) : Type 0 where
  StationActs : StationAct → StationInput K C
  -- a PDU of an air address on a bearer
  AirPdu : ℕ → Bearer → List ℕ → StationInput K C
  -- a record, as it reads
  StationRecord : Interface → Result (Content K C) RecFault → StationInput K C

abbrev pub map_source_keys : {K C L D : Type 0} → (K → L) → (C → D) → SourceKeys K C → SourceKeys L D
map_source_keys f g keys = record { star = map_numbered f g keys.star; spent = map_pair f g keys.spent }

abbrev pub map_attempt : {K C L D : Type 0} → (K → L) → (C → D) → Attempt K C → Attempt L D
map_attempt f g a = record {
  number = a.number;
  station = a.station;
  cell = a.cell;
  via = a.via;
  keys = option_map (map_source_keys f g) a.keys;
  progress = a.progress;
}

abbrev pub map_context : {K C L D : Type 0} → (K → L) → (C → D) → Context K C → Context L D
map_context f g c = record {
  conn = c.conn;
  cell = c.cell;
  air = c.air;
  key = map_station_key f g c.key;
  algs = c.algs;
  keys = map_as_keys f c.keys;
  caps = c.caps;
  starting = c.starting;
  bearers = c.bearers;
  attempt = option_map (map_attempt f g) c.attempt;
  outstanding = c.outstanding;
  origin = c.origin;
}

-- the preparations
abbrev pub map_preps : {K C L D : Type 0} → (K → L) → (C → D) → List (Prep K C) → List (Prep L D)
map_preps f g ps = map (map_prep f g) ps

abbrev pub map_station : {K C L D : Type 0} → (K → L) → (C → D) → Station K C → Station L D
map_station f g s = record {
  id = s.id;
  cells = s.cells;
  priority = s.priority;
  next = s.next;
  last = s.last;
  seen = s.seen;
  context = option_map (map_context f g) s.context;
  preps = map_preps f g s.preps;
}

abbrev pub map_read : {K C L D : Type 0} → (K → L) → (C → D) → Result (Content K C) RecFault → Result (Content L D) RecFault
map_read f g (Ok content) = Ok (map_content f g content)
map_read f g (Err fault) = Err fault

abbrev pub map_station_input : {K C L D : Type 0} → (K → L) → (C → D) → StationInput K C → StationInput L D
map_station_input f g (StationActs act) = StationActs act
map_station_input f g (AirPdu air bearer pdu) = AirPdu air bearer pdu
map_station_input f g (StationRecord interface read) = StationRecord interface (map_read f g read)
