-- The fields of records by their names.
use Rattle.std.specs.Prelude.{ℕ, Bool, true, false, List, codes}
use Rattle.rec_base.specs.declared.faults.RecFault.{RecFault}
use Rattle.alg_choice.specs.{declared.algs.Algs.Algs, declared.caps.Caps.Caps}
use Rattle.annex_a_keys.specs.Cell.{Place}
use Rattle.rec_fields.specs.Layout.{Field}
use Rattle.rec_fields.specs.Record.{octet, octet_to, number, cell, algorithms, capabilities, any_capabilities, key}

pub data Name : Type 0 where
  -- the number of a phone's connection (MME UE S1AP ID)
  Connection : Name
  -- the number that it has from now on
  NextConnection : Name
  -- the number of a path switch request
  Request : Name
  -- the number of an attempt of a handover
  Attempt : Name
  -- the air address of a phone
  Air : Name
  -- a station, 0 to 7
  Station : Name
  -- the station of the source
  Source : Name
  -- NCC, of three bits (TS 36.331 6.3.3)
  Ncc : Name
  -- a cell
  Cell : Name
  -- the chosen algorithms
  Algorithms : Name
  -- the capabilities of a phone
  Capabilities : Name
  -- the capabilities that it is told, any two octets
  Replayed : Name
  -- KeNB
  Kenb : Name
  -- NH
  Nh : Name
  -- KeNB*
  Star : Name
  -- KSI (TS 24.301 9.9.3.21)
  Ksi : Name
  -- 23 or 24 (TS 24.301 9.9.3.9)
  Cause : Name

-- What a name stands for: its words in tables, its values, and how they are read and spelled.
pub record Meaning : Type 1 where
  pub words : List ℕ
  pub Value : Type 0
  pub field : Field RecFault Value

abbrev pub meaning : Name → Meaning
meaning Connection = record { words = codes "connection"; Value = ℕ; field = number }
meaning NextConnection = record { words = codes "next connection"; Value = ℕ; field = number }
meaning Request = record { words = codes "number"; Value = ℕ; field = number }
meaning Attempt = record { words = codes "attempt"; Value = ℕ; field = number }
meaning Air = record { words = codes "air"; Value = ℕ; field = number }
meaning Station = record { words = codes "station"; Value = ℕ; field = octet_to 7 }
meaning Source = record { words = codes "source"; Value = ℕ; field = octet_to 7 }
meaning Ncc = record { words = codes "NCC"; Value = ℕ; field = octet_to 7 }
meaning Cell = record { words = codes "cell"; Value = Place; field = cell }
meaning Algorithms = record { words = codes "algorithms"; Value = Algs; field = algorithms }
meaning Capabilities = record { words = codes "capabilities"; Value = Caps; field = capabilities }
meaning Replayed = record { words = codes "capabilities"; Value = Caps; field = any_capabilities }
meaning Kenb = record { words = codes "KeNB"; Value = List ℕ; field = key }
meaning Nh = record { words = codes "NH"; Value = List ℕ; field = key }
meaning Star = record { words = codes "KeNB*"; Value = List ℕ; field = key }
meaning Ksi = record { words = codes "KSI"; Value = ℕ; field = octet_to 6 }
meaning Cause = record { words = codes "cause"; Value = ℕ; field = octet 23 24 }

-- the field of a name
abbrev pub field : (name : Name) → Field RecFault (meaning name).Value
field name = (meaning name).field

-- every value of these fields is in range
abbrev pub has_any : Name → Bool
has_any Algorithms = true
has_any Replayed = true
has_any other = false

-- a value under the name of its field
abbrev pub Entry : Type 0
Entry = (name : Name) × (meaning name).Value
