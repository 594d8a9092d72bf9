-- The keys of a scenario.
use Rattle.std.specs.Prelude.{ℕ, List, codes}
use Rattle.scenario_file.specs.declared.fields.Field.{Field}
use Rattle.scenario_file.specs.declared.fields.Field.TheVariants as field

-- each key as a scenario writes it
abbrev pub name_of : Field → List ℕ
name_of field.Phone = codes "phone"
name_of field.Core = codes "core"
name_of field.Station = codes "station"
name_of field.Step = codes "step"
name_of field.Caps = codes "caps"
name_of field.Priority = codes "priority"
name_of field.First = codes "first"
name_of field.FirstNcc = codes "first_ncc"
name_of field.Id = codes "id"
name_of field.Cells = codes "cells"
name_of field.Do = codes "do"
name_of field.Ksi = codes "ksi"
name_of field.Kasme = codes "kasme"
name_of field.Cell = codes "cell"
name_of field.Record = codes "record"
name_of field.From = codes "from"
name_of field.Bearer = codes "bearer"
name_of field.Text = codes "text"
name_of field.Who = codes "who"
name_of field.N = codes "n"
name_of field.To = codes "to"
name_of field.Air = codes "air"
name_of field.Octets = codes "octets"
name_of field.Fleet = codes "fleet"
name_of field.Phones = codes "phones"
