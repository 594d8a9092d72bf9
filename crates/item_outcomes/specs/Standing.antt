-- What became of phone, stations and core.
use Rattle.std.specs.Prelude.{ℕ, Bool, List, Option}
use Rattle.item_lines.specs.declared.lines.Told.{Told}

pub record Standing : Type 0 where
  -- the lines of the items, and of the probe behind them
  pub told : List Told
  -- the station that the probe's packet comes to; where it comes to none, the one that serves the phone in the scenario
  pub serving : ℕ
  -- before the probe: the station at which the core has the phone
  pub core : Option ℕ
  -- before the probe: the stations that can derive the phone's last key
  pub reach : List ℕ
  -- whether a coincidence ended it
  pub over : Bool
