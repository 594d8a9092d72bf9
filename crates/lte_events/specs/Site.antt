-- A cell and the station that has it.
use Rattle.std.specs.Prelude.{ℕ, Bool, ◌==◌, ◌&&◌, ◌≤◌, List, length, All, Option, option_map, find}
use Rattle.std.specs.List.{IsDistinct}
use Rattle.annex_a_keys.specs.Cell.{Place}

-- the number of the station, and the cell
pub record Site : Type 0 where
  pub station : ℕ
  pub cell : Place

-- whether the site has this cell
abbrev pub is_site : Place → Site → Bool
is_site place site = (site.cell.pci == place.pci) && (site.cell.earfcn == place.earfcn)

-- the station that has a cell, if the cell is in the table
abbrev pub station_of : Place → List Site → Option ℕ
station_of cell sites = option_map (λ site. site.station) (find (is_site cell) sites)

-- no cell stands twice
abbrev pub NoneTwice : List Site → Type 0
NoneTwice sites = IsDistinct (λ a b. is_site a.cell b) sites

-- what holds of the cells of a system
pub record IsCellTable (sites : List Site) : Type 0 where
  pub within : length sites ≤ 32
  pub none_twice : NoneTwice sites
  pub stations : All (λ s. s.station ≤ 7) sites
