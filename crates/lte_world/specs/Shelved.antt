-- A list with room for more.
use Rattle.std.specs.Prelude.{ℕ, List}

-- the items, and for how many more there is room
pub record Shelved (T : Type 0) : Type 0 where
  pub items : List T
  pub spare : ℕ
