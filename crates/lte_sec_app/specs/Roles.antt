-- The words for a role: `phone`, `station` and its number, `core`.
use Rattle.std.specs.Prelude.{ℕ, ◌-◌, ◌&&◌, nat_le, String, Option, Some, None, List, [], ◌∷◌, codes, if◌then◌else◌}
use Rattle.std.specs.{declared.alloc.Global.Global, Option.option_map, Str.bytes_eq, String.string_bytes}
use Rattle.edge_io.specs.declared.peers.Role.{Role}

-- the number of a station: one digit, 0 to 7
abbrev pub station_number : List ℕ → Option ℕ
station_number (octet ∷ []) = if nat_le 48 octet && nat_le octet 55 then Some (octet - 48) else None
station_number octets = None

-- the role that these words name, if they name one
abbrev pub role_of : List (String Global) → Option Role
role_of (word ∷ []) =
    if bytes_eq (string_bytes word) (codes "phone") then Some Role.Phone
    else (if bytes_eq (string_bytes word) (codes "core") then Some Role.Core else None)
role_of (word ∷ number ∷ []) =
    if bytes_eq (string_bytes word) (codes "station") then option_map Role.Station (station_number (string_bytes number)) else None
role_of words = None
