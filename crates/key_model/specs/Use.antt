-- One use of an algorithm key: what a ciphering or an integrity algorithm takes beside the text.
use Rattle.std.specs.Prelude.{ℕ, Bool, ◌==◌, ◌&&◌}

-- the key, COUNT, BEARER and DIRECTION (TS 33.401 B.1.1 and B.2.1), for keys K and directions D
pub record Use (K D : Type 0) : Type 0 where
  pub key : K
  pub count : ℕ
  pub bearer : ℕ
  pub dir : D

-- the use with its key read in another way
abbrev pub map_use : {K L D : Type 0} → (K → L) → Use K D → Use L D
map_use f u = record { key = f u.key; count = u.count; bearer = u.bearer; dir = u.dir }

-- whether two uses are the same, by these tests of keys and of directions
abbrev pub same_use : {K D : Type 0} → (K → K → Bool) → (D → D → Bool) → Use K D → Use K D → Bool
same_use same same_dir u v = same u.key v.key && (u.count == v.count) && (u.bearer == v.bearer) && same_dir u.dir v.dir
