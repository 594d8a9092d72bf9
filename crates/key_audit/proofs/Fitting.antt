-- An audit each of whose rows says what its neighbours do.
use Rattle.std.specs.Prelude.{◌≡◌, List, length}
use Rattle.key_terms.specs.declared.row.LadderRow.{LadderRow}
use Rattle.key_audit.specs.{declared.audits.AuditRow.AuditRow, Local.FitBelow}

-- an audit of these rows, each of which fits
pub record Fits (rows : List LadderRow) (audit : List AuditRow) : Type 0 where
  pub as_many : length audit ≡ length rows
  pub each : FitBelow rows audit (length rows)
