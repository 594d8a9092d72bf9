-- The key of a station's context, and the pair that it may hold (TS 33.401 7.2.8.4.1 to 7.2.8.4.3).
use Rattle.std.specs.Prelude.{Option, None, Some}
use Rattle.annex_a_keys.specs.Cell.{Place}
use Rattle.rec_base.specs.declared.ways.Way.{Way}
use Rattle.rec_base.specs.declared.ways.Way.TheVariants.{Horizontal, Vertical}
use Rattle.key_model.specs.{Reading.Reading, HandoverTable.NumberedKey, HandoverLines.map_numbered, HandoverLines.star_line, Derivation.Derivation, Derivation.star_made}

-- the active KeNB and its number, and an unused pair of NH and its number
pub record StationKey (K C : Type 0) : Type 0 where
  pub kenb : K
  pub number : C
  pub pair : Option (NumberedKey K C)

-- a pair if there is one, its key and its number read in another way
abbrev pub map_pair : {K C L D : Type 0} → (K → L) → (C → D) → Option (NumberedKey K C) → Option (NumberedKey L D)
map_pair f g None = None
map_pair f g (Some pair) = Some (map_numbered f g pair)

-- a station's key, each key and number read in another way
abbrev pub map_station_key : {K C L D : Type 0} → (K → L) → (C → D) → StationKey K C → StationKey L D
map_station_key f g key = record { kenb = f key.kenb; number = g key.number; pair = map_pair f g key.pair }

-- a KeNB of the first number, and no pair (7.2.8.1.1)
abbrev pub initial_key : {K C : Type 0} → Reading K C → K → StationKey K C
initial_key r kenb = record { kenb = kenb; number = r.first; pair = None }

-- a KeNB* with its number, as the KeNB of its cell, and no pair
abbrev pub given_key : {K C : Type 0} → NumberedKey K C → StationKey K C
given_key star = record { kenb = star.key; number = star.number; pair = None }

-- a new pair, in place of any other (7.2.8.4.2)
abbrev pub stored : {K C : Type 0} → StationKey K C → NumberedKey K C → StationKey K C
stored key pair = record { kenb = key.kenb; number = key.number; pair = Some pair }

-- the pair that stands after one comes back: a newer one stays
abbrev pub pair_after : {K C : Type 0} → Option (NumberedKey K C) → NumberedKey K C → Option (NumberedKey K C)
pair_after None back = Some back
pair_after (Some newer) back = Some newer

-- a pair that comes back
abbrev pub restored : {K C : Type 0} → StationKey K C → NumberedKey K C → StationKey K C
restored key back = record { kenb = key.kenb; number = key.number; pair = pair_after key.pair back }

-- a pair that may come back
abbrev pub restored_if : {K C : Type 0} → StationKey K C → Option (NumberedKey K C) → StationKey K C
restored_if key None = key
restored_if key (Some back) = restored key back

-- the key of which the next KeNB* is derived: the stored pair's NH, or else the active KeNB
abbrev pub base_of : {K C : Type 0} → Option (NumberedKey K C) → K → C → NumberedKey K C
base_of None kenb number = record { key = kenb; number = number }
base_of (Some pair) kenb number = pair

-- vertical with a stored pair, and else horizontal
abbrev pub way_of : {K C : Type 0} → Option (NumberedKey K C) → Way
way_of None = Horizontal
way_of (Some pair) = Vertical

-- the station's key afterwards, KeNB* with its number, the pair used, the way and the derivation
pub record Opened (K C : Type 0) : Type 0 where
  pub key : StationKey K C
  pub star : NumberedKey K C
  pub spent : Option (NumberedKey K C)
  pub way : Way
  pub made : Derivation K

-- a handover of a base key to a cell
abbrev pub opened_from : {K C : Type 0} → Reading K C → StationKey K C → NumberedKey K C → Place → Opened K C
opened_from r key base cell = record {
  key = record { kenb = key.kenb; number = key.number; pair = None };
  star = star_line r base cell.pci cell.earfcn;
  spent = key.pair;
  way = way_of key.pair;
  made = star_made r base.key cell.pci cell.earfcn;
}

-- a station that starts a handover to a cell: the stored pair moves out, and gives KeNB* vertically; with none the active
-- KeNB gives it horizontally, and the number stays (7.2.8.4.1, 7.2.8.4.2)
abbrev pub opened : {K C : Type 0} → Reading K C → StationKey K C → Place → Opened K C
opened r key cell = opened_from r key (base_of key.pair key.kenb key.number) cell
