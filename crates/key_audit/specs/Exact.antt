-- The exact audit of a ladder: which station can derive which key by itself, and from which row that it holds.
use Rattle.std.specs.Prelude.{◌≡◌, ℕ, ◌<◌, ◌↔◌, Bool, false, IsTrue, List, Option, Some, None, length, slice_get, slice_index_or}
use Rattle.key_terms.specs.declared.row.LadderRow.{LadderRow}
use Rattle.key_audit.specs.{declared.audits.AuditRow.AuditRow, Derives.CanDerive, Derives.IsNearest}

abbrev pub can_in : ℕ → Option AuditRow → Bool
can_in station None = false
can_in station (Some row) = slice_index_or row.can station false

abbrev pub from_in : ℕ → Option AuditRow → ℕ
from_in station None = 0
from_in station (Some row) = slice_index_or row.from station 0

-- what an audit says of a station and row k
abbrev pub can_at : List AuditRow → ℕ → ℕ → Bool
can_at audit station k = can_in station (slice_get audit k)

abbrev pub from_at : List AuditRow → ℕ → ℕ → ℕ
from_at audit station k = from_in station (slice_get audit k)

pub record Exact (rows : List LadderRow) (audit : List AuditRow) : Type 0 where
  -- a row for each row of the ladder
  pub as_many : length audit ≡ length rows
  -- a station can derive the key of a row exactly where it is derivable from the keys of the rows that it holds
  pub can : (k station : ℕ) → k < length rows → station < 8 → IsTrue (can_at audit station k) ↔ CanDerive rows station k
  -- and then the row named is the nearest one that it holds on the way up from there
  pub from : (k station : ℕ) → k < length rows → station < 8 → IsTrue (can_at audit station k) → IsNearest rows station k (from_at audit station k)
  -- where it cannot, no row is named
  pub nothing : (k station : ℕ) → k < length rows → station < 8 → can_at audit station k ≡ false → from_at audit station k ≡ 0
