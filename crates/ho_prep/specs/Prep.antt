-- The preparations of a target, each for a phone that may come at an air address (TS 33.401 7.2.8.4, TS 36.300
-- 10.1.2.1.1).
use Rattle.std.specs.Prelude.{ℕ, ◌==◌, nat_le, Bool, not, ◌&&◌, List, Option, None, Some, filter, find, position, remove, replicate}
use Rattle.std.specs.List.{list_any}
use Rattle.annex_a_keys.specs.Cell.{Place}
use Rattle.alg_choice.specs.{declared.algs.Algs.Algs, declared.algs.Eea.TheVariants.Eea0, declared.caps.Caps.Caps}
use Rattle.nh_chain.specs.Station.{StationKey, map_station_key}
use Rattle.pdcp_guard.specs.AsKeys.{AsKeys, map_as_keys}
use Rattle.ho_prep.specs.{declared.origins.By.By, declared.origins.By.TheVariants.X2}

-- a preparation: the connection, the source station and its attempt, how it came, the target cell, the air address
-- drawn for the phone, its key and number, the algorithms chosen, the keys of the access stratum, and the phone's
-- capabilities
pub record Prep (K C : Type 0) : Type 0 where
  pub conn : ℕ
  pub source : ℕ
  pub attempt : ℕ
  pub by : By
  pub cell : Place
  pub air : ℕ
  pub key : StationKey K C
  pub algs : Algs
  pub keys : AsKeys K
  pub caps : Caps

-- a preparation, each key and number read in another way
abbrev pub map_prep : {K C L D : Type 0} → (K → L) → (C → D) → Prep K C → Prep L D
map_prep f g p = record {
  conn = p.conn;
  source = p.source;
  attempt = p.attempt;
  by = p.by;
  cell = p.cell;
  air = p.air;
  key = map_station_key f g p.key;
  algs = p.algs;
  keys = map_as_keys f p.keys;
  caps = p.caps;
}

-- what an unused place of a list of preparations holds: the least numbers in range, keys of zeros, no pair and no capability
abbrev pub zeros : List ℕ
zeros = replicate 32 0

abbrev pub unused : Prep (List ℕ) ℕ
unused = record {
  conn = 1;
  source = 0;
  attempt = 1;
  by = X2;
  cell = record { pci = 0; earfcn = 0 };
  air = 1;
  key = record { kenb = zeros; number = 0; pair = None };
  algs = record { eea = Eea0 };
  keys = record { rrc_enc = zeros; rrc_int = zeros; up_enc = zeros; algs = record { eea = Eea0 } };
  caps = record { eea = 0; eia = 0 };
}

-- how many preparations a station holds at most
abbrev pub most_preparations : ℕ
most_preparations = 8

-- whether a preparation has this air address
abbrev pub is_at : {K C : Type 0} → ℕ → Prep K C → Bool
is_at air p = p.air == air

-- whether it is of this attempt of this source
abbrev pub is_of : {K C : Type 0} → ℕ → ℕ → Prep K C → Bool
is_of source attempt p = (p.source == source) && (p.attempt == attempt)

-- the first preparation at an air address
abbrev pub at_air : {K C : Type 0} → ℕ → List (Prep K C) → Option (Prep K C)
at_air air ps = find (is_at air) ps

-- a list without the item at a place
abbrev pub without_place : {X : Type 0} → Option ℕ → List X → List X
without_place None xs = xs
without_place (Some place) xs = remove xs place

-- the others, in order
abbrev pub without_at : {K C : Type 0} → ℕ → List (Prep K C) → List (Prep K C)
without_at air ps = without_place (position (is_at air) ps) ps

-- whether there is one of this attempt of this source
abbrev pub has_attempt : {K C : Type 0} → ℕ → ℕ → List (Prep K C) → Bool
has_attempt source attempt ps = list_any (is_of source attempt) ps

-- those of other attempts, in order
abbrev pub without : {K C : Type 0} → ℕ → ℕ → List (Prep K C) → List (Prep K C)
without source attempt ps = filter (λ p. not (is_of source attempt p)) ps

-- those whose connection is this one or a later one, in order
abbrev pub drop_below : {K C : Type 0} → ℕ → List (Prep K C) → List (Prep K C)
drop_below conn ps = filter (λ p. nat_le conn p.conn) ps
