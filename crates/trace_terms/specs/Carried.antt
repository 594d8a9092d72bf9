-- What the network holds, and what it sends, each key and number read in another way.
use Rattle.std.specs.Prelude.{Option, None, Some, List}
use Rattle.key_model.specs.{Reading.Reading, HandoverLines.map_numbered}
use Rattle.nh_chain.specs.{Chain.map_chain, Station.map_pair, Station.map_station_key}
use Rattle.trace_rules.specs.Rules.{Done}
use Rattle.trace_keys.specs.{declared.moves.Move.Move, Moved.moved}
use Rattle.trace_keys.specs.Net.{Target, Offer, Serving, Net, Sight}

abbrev pub map_target : {K C L D : Type 0} → (K → L) → (C → D) → Option (Target K C) → Option (Target L D)
map_target f g None = None
map_target f g (Some t) = Some (record { station = t.station; cell = t.cell; star = map_numbered f g t.star; spent = map_pair f g t.spent })

abbrev pub map_offer : {K C L D : Type 0} → (K → L) → (C → D) → Option (Offer K C) → Option (Offer L D)
map_offer f g None = None
map_offer f g (Some o) = Some (record { kasme = o.kasme; count = o.count; kenb = f o.kenb; core = map_chain f g o.core })

abbrev pub map_serving : {K C L D : Type 0} → (K → L) → (C → D) → Serving K C → Serving L D
map_serving f g s = record {
  core = map_chain f g s.core;
  station = s.station;
  cell = s.cell;
  key = map_station_key f g s.key;
  target = map_target f g s.target;
  offer = map_offer f g s.offer;
}

abbrev pub map_connection : {K C L D : Type 0} → (K → L) → (C → D) → Option (Serving K C) → Option (Serving L D)
map_connection f g None = None
map_connection f g (Some s) = Some (map_serving f g s)

abbrev pub map_net : {K C L D : Type 0} → (K → L) → (C → D) → Net K C → Net L D
map_net f g net = record { kasme = net.kasme; count = net.count; serving = map_connection f g net.serving }

-- a message: the NCC of its key stays
abbrev pub map_sight : {K L : Type 0} → (K → L) → Sight K → Sight L
map_sight f s = record { at = s.at; pair = map_pair f (λ n. n) s.pair }

abbrev pub map_sent : {K L : Type 0} → (K → L) → Option (Sight K) → Option (Sight L)
map_sent f None = None
map_sent f (Some s) = Some (map_sight f s)

-- what a move leaves, and what it sends
abbrev pub map_done : {K C L D : Type 0} → (K → L) → (C → D) → Option (Done (Net K C) (Sight K)) → Option (Done (Net L D) (Sight L))
map_done f g None = None
map_done f g (Some done) = Some (record { net = map_net f g done.net; sent = map_sent f done.sent })

-- a move that sends the value of its key
abbrev pub with_values : {K C L : Type 0} → (K → L) → Option (Done (Net K C) (Sight K)) → Option (Done (Net K C) (Sight L))
with_values f None = None
with_values f (Some done) = Some (record { net = done.net; sent = map_sent f done.sent })

abbrev pub valued : {K C L : Type 0} → Reading K C → (K → L) → List K → Net K C → Move → Option (Done (Net K C) (Sight L))
valued r f kasmes net move = with_values f (moved r kasmes net move)
