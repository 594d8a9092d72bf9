-- Which station can derive which row, row by row: by the rows that a row comes from, and by who holds it.
use Rattle.std.specs.Prelude.{◌≡◌, ℕ, zero, suc, ◌<◌, Bool, true, false, List, Option, Some, None, slice_get}
use Rattle.hmac_kdf.specs.declared.input.KdfInput.TheVariants.{Nh}
use Rattle.key_terms.specs.{declared.row.LadderRow.LadderRow, declared.row.Origin.Origin}
use Rattle.key_terms.specs.declared.row.Origin.TheVariants.{Root, From}
use Rattle.key_audit.specs.{declared.audits.AuditRow.AuditRow, Terms.sync_row, Derives.held_by, Exact.can_in, Exact.from_in}

-- A mark of a row says that a station can derive it, and from which row that it holds. Where `mark` gives those of the rows
-- before: that of the SYNC-input, and of the key where the first is there
abbrev pub sync_mark : (ℕ → Option ℕ) → Option ℕ → Option ℕ
sync_mark mark None = None
sync_mark mark (Some j) = mark j

abbrev pub and_mark : Option ℕ → Option ℕ → Option ℕ
and_mark None mark = None
and_mark (Some first) mark = mark

-- of what a row is derived from (A.3, A.4, A.5, A.7)
abbrev pub above_mark : List LadderRow → (ℕ → Option ℕ) → ℕ → Origin → Option ℕ
above_mark rows mark k Root = None
above_mark rows mark k (From key (Nh sync)) = and_mark (sync_mark mark (sync_row rows k sync)) (mark key.0)
above_mark rows mark k (From key other) = mark key.0

-- or the row itself, where the station holds it
abbrev pub held_first : Bool → ℕ → Option ℕ → Option ℕ
held_first true k above = Some k
held_first false k above = above

abbrev pub local_mark : List LadderRow → (ℕ → Option ℕ) → ℕ → ℕ → LadderRow → Option ℕ
local_mark rows mark station k row = held_first (held_by station row) k (above_mark rows mark k row.origin)

-- THE MARK OF A ROW

abbrev pub mark_in : List LadderRow → (ℕ → Option ℕ) → ℕ → ℕ → Option LadderRow → Option ℕ
mark_in rows mark station k None = None
mark_in rows mark station k (Some row) = local_mark rows mark station k row

-- found in at most so many steps: each row comes from rows before it
abbrev pub mark_within : ℕ → List LadderRow → ℕ → ℕ → Option ℕ
mark_within zero rows station k = None
mark_within (suc steps) rows station k = mark_in rows (mark_within steps rows station) station k (slice_get rows k)

unfoldable pub exact_mark : List LadderRow → ℕ → ℕ → Option ℕ
exact_mark rows station k = mark_within (suc k) rows station k

-- WHAT AN AUDIT SAYS

abbrev pub mark_if : Bool → ℕ → Option ℕ
mark_if true from = Some from
mark_if false from = None

abbrev pub mark_of : ℕ → Option AuditRow → Option ℕ
mark_of station row = mark_if (can_in station row) (from_in station row)

abbrev pub mark_at : List AuditRow → ℕ → ℕ → Option ℕ
mark_at audit station k = mark_of station (slice_get audit k)

-- a row that names no row where a station cannot derive it
abbrev pub IsClean : Option AuditRow → Type 0
IsClean row = (station : ℕ) → station < 8 → can_in station row ≡ false → from_in station row ≡ 0

abbrev pub AreClean : List AuditRow → Type 0
AreClean audit = (k : ℕ) (row : AuditRow) → slice_get audit k ≡ Some row → IsClean (Some row)

-- a row that is made of those before it
pub record Fills (rows : List LadderRow) (before : List AuditRow) (k : ℕ) (row : LadderRow) (made : AuditRow) : Type 0 where
  pub marks : (station : ℕ) → station < 8 → mark_of station (Some made) ≡ local_mark rows (mark_at before station) station k row
  pub clean : IsClean (Some made)

-- a row says of a station what its neighbours do
pub record RowFits (rows : List LadderRow) (audit : List AuditRow) (k : ℕ) (station : ℕ) : Type 0 where
  pub mark : (row : LadderRow) → slice_get rows k ≡ Some row → mark_at audit station k ≡ local_mark rows (mark_at audit station) station k row
  pub nothing : can_in station (slice_get audit k) ≡ false → from_in station (slice_get audit k) ≡ 0

-- of each station
abbrev pub AllFit : List LadderRow → List AuditRow → ℕ → Type 0
AllFit rows audit k = (station : ℕ) → station < 8 → RowFits rows audit k station

-- and so does each row below k
abbrev pub FitBelow : List LadderRow → List AuditRow → ℕ → Type 0
FitBelow rows audit k = (j : ℕ) → j < k → AllFit rows audit j

-- these two say the same as a mark
abbrev pub Says : Bool → ℕ → Option ℕ → Type 0
Says can from None = (can ≡ false) × (from ≡ 0)
Says can from (Some row) = (can ≡ true) × (from ≡ row)
